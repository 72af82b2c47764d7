-- What turns write fits its fields, for frames under 2^32 bytes and readings that the queue can say.
-- Assumes nothing.
use Rattle.std.specs.Prelude.{List, [], ◌∷◌, ◌≡◌, true, ℕ, zero, suc, ◌<◌, ◌^◌, Some, None}
use Rattle.std.proofs.Common.{sym, subst, arith, lit<}
use Rattle.codes.specs.Answers.{says_refusal}
use Rattle.turns.specs.Rules.{choose_of, next_span, sent_of, submit, comes_to, judge_of, played_of, release, accept, ticked, settle, hear, act, turn_of}
use Rattle.turns.specs.RuleLaws.{Chosen, chosen}
use Rattle.turns.specs.Log.{first_of, rest_of}
use Rattle.trace.specs.PlayedLaws.{Played, played}
use Rattle.trace.specs.Trace.{sent_then}
use Rattle.trace.specs.Field.{AllFit}
use Rattle.trace.specs.TaleLaws.{writes, tale}
use Rattle.trace.specs.CompleteLaws.{heard_tale, hear-sent}
use Rattle.trace.specs.Runs.{Real, AllReal}
use Rattle.trace.specs.Types.{Track, Sent, Reading, Choice, Submit, Finish, Wait, Verdict, WrongSlot, Good, Bad}

-- slots are below 32, the frames under 2^32 bytes
pub record Small (t : Track) : Type 0 where
  pub head : t.head < 32
  pub tail : t.tail < 32
  pub total : t.total < 4294967296

pub small-submit : (t : Track) → Small t → Small (submit t)
small-submit t s = record { head = omega (arith, s.head); tail = s.tail; total = s.total }

pub small-release : (t : Track) → Small t → Small (release t)
small-release t s = record { head = s.head; tail = omega (arith, s.tail); total = s.total }

small-accept : (t : Track) → Small t → Small (accept t)
small-accept t s = record { head = s.head; tail = omega (arith, s.tail); total = s.total }

small-ticked : (t : Track) → Small t → Small (ticked true t)
small-ticked t s = record { head = s.head; tail = s.tail; total = s.total }

real-first : (script : List Reading) → AllReal script → Real (first_of script)
real-first [] r = tt
real-first (x ∷ xs) r = r.0

real-rest : (script : List Reading) → AllReal script → AllReal (rest_of script)
real-rest [] r = tt
real-rest (x ∷ xs) r = r.1

module _ (least n : ℕ) (script : List Reading) (later : (u : Track) → Small u → AllFit (tale least n (ticked true u) script)) where
  settle-fits : (sent : Sent) (t : Track) (slot status : ℕ) (v : Verdict) → Played t slot status v → Small t → status < 256 ^ 4
      → AllFit (heard_tale least n (settle v sent t slot status) script)
  settle-fits sent t slot status WrongSlot j s r = ((lit< tt, tt), tt)
  settle-fits sent t slot status Good j s r = let e = j.1 in let h : slot < 256 = omega (arith, s.tail) in ((h, (r, tt)), later (accept t) (small-accept t s))
  settle-fits sent t slot status (Bad a) j s r =
      let e = j.1 in
      let h : slot < 256 = omega (arith, s.tail) in
      let two : (says_refusal a).number ≡ 2 = j.3 in
      let low : (says_refusal a).number < 256 = omega arith in
      ((h, (r, tt)), ((low, tt), tt))

  hear-fits : (sent : Sent) (t : Track) (x : Reading) → Real x → Small t → AllFit (heard_tale least n (hear (comes_to played_of x) sent t x) script)
  hear-fits sent t None r s = later t s
  hear-fits sent t (Some c) r s = settle-fits sent t c.slot c.status (judge_of t c.slot (played_of c.status)) (played t c.slot c.status) s r.1

  act-fits : (c : Choice) (t : Track) (x : Reading) → Chosen least t c → Real x → Small t → AllFit (writes (act c t (comes_to played_of x) x) (λ u. tale least n u script))
  act-fits Submit t x ch r s =
      let low : t.head < 256 = omega (arith, s.head) in
      let off : t.next < 4294967296 = omega (arith, s.total, ch.1) in
      let len : next_span t < 4294967296 = omega (arith, s.total, ch.1) in
      subst (λ (z : Sent). AllFit (sent_then z (heard_tale least n (hear (comes_to played_of x) (sent_of t) (submit t) x) script))) (sym (hear-sent (sent_of t) (submit t) (comes_to played_of x) x))
      ((low, (off, (len, tt))), hear-fits (sent_of t) (submit t) x r (small-submit t s))
  act-fits Finish t x ch r s = ((lit< tt, tt), tt)
  act-fits Wait t x ch r s =
      subst (λ (z : Sent). AllFit (sent_then z (heard_tale least n (hear (comes_to played_of x) None t x) script))) (sym (hear-sent None t (comes_to played_of x) x)) (hear-fits None t x r s)

pub tale-fits : (least n : ℕ) (t : Track) (script : List Reading) → AllReal script → Small t → AllFit (tale least n t script)
unfolding tale turn_of
tale-fits least zero t script r s = ((lit< tt, tt), tt)
tale-fits least (suc n) t script r s =
    act-fits least n (rest_of script) (λ u h. tale-fits least n (ticked true u) (rest_of script) (real-rest script r) (small-ticked u h)) (choose_of least t) t (first_of script) (chosen least t) (real-first script r) s
