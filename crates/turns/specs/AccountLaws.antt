-- The account of a run, however it ends: what went out is a beginning of what was ahead, what came back is a beginning of that, what is in flight is the rest.
-- Assumes nothing.
use Rattle.std.specs.Prelude.{ℕ, zero, suc, ◌+◌, ◌%◌, ◌≤◌, ◌<◌, ◌≡◌, refl, ◌⊎◌, Bool, true, false, List, [], ◌∷◌, ◌++◌, length, take, Ok, Err, Some, None}
use Rattle.std.proofs.Common.{arith, sym, ap, ◌∙◌, subst, inl, inr}
use Rattle.codes.specs.Answers.{says_refusal}
use Rattle.codes.specs.AnswersLaws.{numbered}
use Rattle.codes.specs.declared.answers.Refusal.{Refusal}
use Rattle.turns.specs.Ring.{after, going, says_said}
use Rattle.turns.specs.CutLaws.{spans, spans-more}
use Rattle.turns.specs.Rules.{choose_of, submit, sent_of, comes_to, release, accept, played_of, judge_of, settle, hear, act, turn_of, ticked, counted_by, counted_of}
use Rattle.turns.specs.RuleLaws.{Chosen, chosen, Judged, judged, played-fine, played-fails}
use Rattle.turns.specs.CaseLaws.{last_of, hear-cases}
use Rattle.turns.specs.KeepLaws.{turn-plain, counted-track}
use Rattle.turns.specs.Log.{Line, Ran, waiting_by, next_of, rest_of, onward, loop_of, line_of, Judge, played, judged_of, run, sends_more, sends, frees_more, frees}
use Rattle.turns.specs.Types.{Track, Sent, Heard, Said, Going, Done, Ended, Step, Reading, Choice, Submit, Finish, Wait, Outcome, Verdict, WrongSlot, Good, Bad, completion, freed_slot}

-- a turn, counted, and what follows it
abbrev pub turned : ℕ → Reading → Bool → Step → Ran Track → Ran Track
turned waiting reading last u rest = let s = counted_by u.said last u in onward s.said (line_of waiting reading s) s.track rest

-- what is left to go out, with fuel for it
abbrev pub ahead : ℕ → Track → List Sent
ahead f t = spans f t.period t.total t.next t.head

abbrev pub Fuelled : ℕ → Track → Type 0
Fuelled f t = (t.total ≤ t.next + f) × (0 < t.period)

hear-fuelled : (f : ℕ) (sent : Sent) (t : Track) (o : Outcome) (reading : Reading) → Fuelled f t → Fuelled f (hear o sent t reading).track
hear-fuelled f sent t o reading h = hear-cases (λ s. Fuelled f s.track) sent t o reading (λ _ _. h) (λ _ _ _ _ _ _ _. h)

-- ---- what the laws ask of a judgement: a completion that is fine has 0x8000, another ends with a fault of the judgement's, and 2 is of another status

abbrev pub Fair : (ℕ → Type 0) → Outcome → ℕ → Type 0
Fair Fault (Ok tt) status = status ≡ 0x8000
Fair Fault (Err r) status = Fault (says_refusal r).number × ((says_refusal r).number ≡ 2 → status ≡ 0x8000 → ⊥)

pub record Just {R : Type 0} (j : Judge R) (Fault : ℕ → Type 0) : Type 0 where
  pub fair : (t : Track) (x : R) (status : ℕ) → Fair Fault (j.judge t x status) status
  pub known : (n : ℕ) → Fault n → (n ≡ 2) ⊎ (n ≡ 17)

-- the same of a reading
abbrev pub FairOf : (ℕ → Type 0) → Outcome → Reading → Type 0
FairOf Fault o None = Unit {0}
FairOf Fault o (Some c) = Fair Fault o c.status

fair-by : (Fault : ℕ → Type 0) (judge : ℕ → Outcome) (reading : Reading) → ((status : ℕ) → Fair Fault (judge status) status) → FairOf Fault (comes_to judge reading) reading
fair-by Fault judge None h = tt
fair-by Fault judge (Some c) h = h c.status

pub fair-of : {R : Type 0} {Fault : ℕ → Type 0} (j : Judge R) → Just j Fault → (t : Track) (x : R) → FairOf Fault (judged_of j t x) (j.reading x)
fair-of {Fault = Fault} j just t x = fair-by Fault (j.judge t x) (j.reading x) (just.fair t x)

-- a playback's fault is 2
abbrev pub Two : ℕ → Type 0
Two n = n ≡ 2

played-fair : (status : ℕ) (o : Outcome) → played_of status ≡ o → Fair Two o status
played-fair status (Ok tt) e = played-fine status e
played-fair status (Err r) e = let p = played-fails status r e in (sym (ap (λ (x : Refusal). (says_refusal x).number) p.1), λ _. p.0)

pub played-just : Just played Two
played-just = record { fair = λ t x status. played-fair status (played_of status) refl; known = λ n e. inl e }

-- completions in order from a slot on, each with 0x8000, but for a last one where the answer is a fault
abbrev pub InOrder : (ℕ → Type 0) → ℕ → ℕ → List Heard → Type 0
InOrder Fault answer slot [] = Fault answer → ⊥
InOrder Fault answer slot (None ∷ back) = ⊥
InOrder Fault answer slot (Some f ∷ back) = (f.slot ≡ slot) × (((f.status ≡ 0x8000) × InOrder Fault answer (after slot) back) ⊎ ((answer ≡ 2 → f.status ≡ 0x8000 → ⊥) × Fault answer × (back ≡ [])))

abbrev one : Sent → ℕ
one sent = length (sends_more sent [])

abbrev gone : Heard → ℕ
gone heard = length (frees_more heard [])

more-append : (sent : Sent) (xs ys : List Sent) → sends_more sent xs ++ ys ≡ sends_more sent (xs ++ ys)
more-append None xs ys = refl
more-append (Some p) xs ys = refl

more-sends : (sent : Sent) (xs : List Sent) → length (sends_more sent xs) ≡ one sent + length xs
more-sends None xs = omega arith
more-sends (Some p) xs = omega arith

pub more-frees : (heard : Heard) (xs : List Heard) → length (frees_more heard xs) ≡ gone heard + length xs
more-frees None xs = omega arith
more-frees (Some f) xs = omega arith

-- from a track that had `out` ahead, `inflight` in flight from `tail` on, `had` of them sent in this turn
pub record Account (Fault : ℕ → Type 0) (out : List Sent) (had inflight tail : ℕ) (o : Ran Track) : Type 0 where
  pub fuel : ℕ
  pub fuelled : Fuelled fuel o.at
  pub sent : sends o.log ++ ahead fuel o.at ≡ out
  pub owed : inflight + length (sends o.log) ≡ had + length (frees o.log) + o.at.inflight
  pub oldest : tail < 32 → o.at.tail ≡ (tail + length (frees o.log)) % 32
  pub back : InOrder Fault (says_said o.said).number tail (frees o.log)
  -- at every turn no more was completed than had gone out
  pub timely : (k : ℕ) → length (frees (take k o.log)) + had ≤ inflight + length (sends (take k o.log))
  -- Ok is said when nothing is ahead and nothing in flight
  pub done : (says_said o.said).number ≡ 0 → (o.at.total ≤ o.at.next) × (o.at.inflight ≡ 0)

-- t is the track after rule 1 sent something, m the track after rule 2 heard something
module _ (Fault : ℕ → Type 0) (f w : ℕ) (sent : Sent) (t m : Track) (reading : Reading) (heard : Heard) (enough : one sent ≤ t.inflight) (less : gone heard + m.inflight ≡ t.inflight) (along : t.tail < 32 → m.tail ≡ (t.tail + gone heard) % 32) where
  abbrev line : Said → Line
  line said = record { sent = sent; waiting = w; reading = reading; heard = heard; said = said }

  ends-timely : (said : Said) (k : ℕ) → length (frees (take k (line said ∷ []))) + one sent ≤ t.inflight + length (sends (take k (line said ∷ [])))
  ends-timely said zero = omega arith
  ends-timely said (suc zero) = omega arith
  ends-timely said (suc (suc k)) = omega arith

  goes-timely : (log : List Line) → ((k : ℕ) → length (frees (take k log)) + 0 ≤ m.inflight + length (sends (take k log)))
      → (k : ℕ) → length (frees (take k (line Going ∷ log))) + one sent ≤ t.inflight + length (sends (take k (line Going ∷ log)))
  goes-timely log h zero = omega arith
  goes-timely log h (suc k) = omega (arith, more-sends sent (sends (take k log)), more-frees heard (frees (take k log)), h k)

  ends : (a : Refusal) → Fuelled f m → InOrder Fault (says_refusal a).number t.tail (frees_more heard [])
      → Account Fault (sends_more sent (ahead f m)) (one sent) t.inflight t.tail (record { said = Ended a; at = ticked false m; log = line (Ended a) ∷ [] })
  ends a fu back =
      record {
        fuel = f;
        fuelled = fu;
        sent = more-append sent [] (ahead f m);
        owed = omega arith;
        oldest = along;
        back = back;
        timely = ends-timely (Ended a);
        done = λ e. absurd (omega (arith, (numbered a).least));
      }

  goes : (rest : Ran Track) → Account Fault (ahead f m) 0 m.inflight m.tail rest → InOrder Fault (says_said rest.said).number t.tail (frees_more heard (frees rest.log))
      → Account Fault (sends_more sent (ahead f m)) (one sent) t.inflight t.tail (onward Going (line Going) m rest)
  goes rest k back =
      record {
        fuel = k.fuel;
        fuelled = k.fuelled;
        sent = more-append sent (sends rest.log) _ ∙ ap (sends_more sent) k.sent;
        owed = omega (arith, more-sends sent (sends rest.log), more-frees heard (frees rest.log), k.owed);
        oldest = λ h. let a = along h in let b = k.oldest (omega arith) in omega (arith, more-frees heard (frees rest.log));
        back = back;
        timely = goes-timely rest.log k.timely;
        done = k.done;
      }

module _ (Fault : ℕ → Type 0) (known : (n : ℕ) → Fault n → (n ≡ 2) ⊎ (n ≡ 17)) where
  -- another answer is no fault
  spares-by : (n : ℕ) → (n ≡ 2 → ⊥) → (n ≡ 17 → ⊥) → (n ≡ 2) ⊎ (n ≡ 17) → ⊥
  spares-by n p q (inl e) = p e
  spares-by n p q (inr e) = q e

  spares : (n : ℕ) → (n ≡ 2 → ⊥) → (n ≡ 17 → ⊥) → Fault n → ⊥
  spares n p q e = spares-by n p q (known n e)

  -- what follows a turn on a track, booked
  abbrev Follows : ℕ → Track → Ran Track → Type 0
  Follows f m rest = Account Fault (ahead f m) 0 m.inflight m.tail rest

  settle-account : (f w : ℕ) (sent : Sent) (t : Track) (slot status : ℕ) (o : Outcome) (last : Bool) (rest : Ran Track) → one sent ≤ t.inflight → Fuelled f t → Fair Fault o status → (v : Verdict) → Judged t slot o v
      → Follows f (settle v sent t slot status).track rest
      → Account Fault (sends_more sent (ahead f t)) (one sent) t.inflight t.tail (turned w (completion slot status) last (settle v sent t slot status) rest)
  settle-account f w sent t slot status o last rest h fu fair WrongSlot j k =
      ends Fault f w sent t t (completion slot status) None h (omega arith) (λ s. omega arith) _ fu (spares 6 (λ e. omega arith) (λ e. omega arith))
  settle-account f w sent t slot status o true rest h fu fair Good j k =
      ends Fault f w sent t (accept t) (completion slot status) (freed_slot slot status) h (omega arith) (λ s. omega arith) _ fu (j.1, inl (subst (λ (x : Outcome). Fair Fault x status) j.2 fair, spares 9 (λ e. omega arith) (λ e. omega arith)))
  settle-account f w sent t slot status o false rest h fu fair Good j k =
      goes Fault f w sent t (accept t) (completion slot status) (freed_slot slot status) h (omega arith) (λ s. omega arith) rest k (j.1, inl (subst (λ (x : Outcome). Fair Fault x status) j.2 fair, k.back))
  settle-account f w sent t slot status o last rest h fu fair (Bad a) j k =
      let p = subst (λ (x : Outcome). Fair Fault x status) j.2 fair in
      ends Fault f w sent t (release t) (completion slot status) (freed_slot slot status) h (omega arith) (λ s. omega arith) a fu (j.1, inr (p.1, p.0, refl))

  hear-account : (f w : ℕ) (sent : Sent) (t : Track) (o : Outcome) (reading : Reading) (last : Bool) (rest : Ran Track) → one sent ≤ t.inflight → Fuelled f t → FairOf Fault o reading
      → Follows f (hear o sent t reading).track rest
      → Account Fault (sends_more sent (ahead f t)) (one sent) t.inflight t.tail (turned w reading last (hear o sent t reading) rest)
  hear-account f w sent t o None true rest h fu fair k = ends Fault f w sent t t None None h (omega arith) (λ s. omega arith) _ fu (spares 9 (λ e. omega arith) (λ e. omega arith))
  hear-account f w sent t o None false rest h fu fair k = goes Fault f w sent t t None None h (omega arith) (λ s. omega arith) rest k k.back
  hear-account f w sent t o (Some c) last rest h fu fair k = settle-account f w sent t c.slot c.status o last rest h fu fair (judge_of t c.slot o) (judged t c.slot o) k

  act-account : (least f : ℕ) (t : Track) (o : Outcome) (reading : Reading) (last : Bool) (c : Choice) → Chosen least t c → Fuelled f t → FairOf Fault o reading → (rest : Ran Track)
      → ((k : ℕ) → Fuelled k (act c t o reading).track → Follows k (act c t o reading).track rest)
      → Follows f t (turned (waiting_by c t) reading last (act c t o reading) rest)
  act-account least zero t o reading last Submit ch fu fair rest k = absurd (omega arith)
  act-account least (suc f) t o reading last Submit ch fu fair rest k =
      let h : Fuelled f (submit t) = (omega arith, fu.1) in
      let b = hear-account f (t.inflight + 1) (sent_of t) (submit t) o reading last rest (omega arith) h fair (k f (hear-fuelled f (sent_of t) (submit t) o reading h)) in
      record {
        fuel = b.fuel;
        fuelled = b.fuelled;
        sent = rw (spans-more f t.period t.total t.next t.head ch.1) b.sent;
        owed = omega (arith, b.owed);
        oldest = b.oldest;
        back = b.back;
        timely = λ k. omega (arith, b.timely k);
        done = b.done;
      }
  act-account least f t o reading last Finish ch fu fair rest k =
      record { fuel = f; fuelled = fu; sent = refl; owed = omega arith; oldest = λ h. omega arith; back = spares 0 (λ e. omega arith) (λ e. omega arith); timely = ends-timely Fault f 0 None t t reading None (omega arith) (omega arith) (λ s. omega arith) Done; done = λ e. (ch.1, ch.2) }
  act-account least f t o reading last Wait ch fu fair rest k = hear-account f t.inflight None t o reading last rest (omega arith) fu fair (k f (hear-fuelled f None t o reading fu))

nil-timely : (inflight k : ℕ) → length (frees (take k [])) + 0 ≤ inflight + length (sends (take k []))
nil-timely inflight zero = omega arith
nil-timely inflight (suc k) = omega arith

-- THE ACCOUNT, of a run by any judgement
pub account : {R : Type 0} {Fault : ℕ → Type 0} (j : Judge R) → Just j Fault → (least fuel f : ℕ) (t : Track) (script : List R) → Fuelled f t
    → Account Fault (ahead f t) 0 t.inflight t.tail (run j least fuel t script)
unfolding loop_of turn_of counted_of
account {Fault = Fault} j just least zero f t script fu =
    record { fuel = f; fuelled = fu; sent = refl; owed = omega arith; oldest = λ h. omega arith; back = spares Fault just.known going (λ e. omega arith) (λ e. omega arith); timely = nil-timely t.inflight; done = λ e. omega arith }
account {Fault = Fault} j just least (suc fuel) f t script fu =
    let x = next_of j.quiet script in
    let o = judged_of j t x in
    let u = act (choose_of least t) t o (j.reading x) in
    act-account Fault just.known least f t o (j.reading x) (last_of u) (choose_of least t) (chosen least t) fu (fair-of j just t x) (run j least fuel (counted_of u).track (rest_of script))
    (λ k h. subst (λ (n : Track). Account Fault (ahead k u.track) 0 u.track.inflight u.track.tail (run j least fuel n (rest_of script))) (counted-track u (turn-plain least t o (j.reading x))) (account j just least fuel k (ticked _ u.track) (rest_of script) h))
