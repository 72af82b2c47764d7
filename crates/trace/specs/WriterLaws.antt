-- 2026-11's writer: how long a turn's bytes are, and what is in flight after it.
-- Assumes nothing.
use Rattle.std.specs.Prelude.{Bool, true, false, List, [], ◌∷◌, ◌++◌, ◌≡◌, refl, ℕ, ◌+◌, ◌*◌, eqb, length, Some, None}
use Rattle.std.proofs.Common.{sym, ap, ◌∙◌, add-zero, arith}
use Rattle.layout.specs.Rows.{rows_bytes}
use Rattle.turns.specs.Rules.{choose_of, sent_of, submit, judge_of, settle, hear, act, turn_of, counted_by, counted_of}
use Rattle.turns.specs.RuleLaws.{Judged, judged}
use Rattle.turns.specs.Log.{Line}
use Rattle.trace.specs.Field.{trace_bytes}
use Rattle.trace.specs.Trace.{sent_then, heard_then, said_then, fields_of}
use Rattle.trace.specs.Private.{turn_fields}
use Rattle.trace.specs.PenLaws.{turn-length, one_size}
use Rattle.trace.specs.declared.field.Field.TheVariants as field
use Rattle.trace.specs.Types.{Track, Step, Sent, Heard, Said, Going, Done, Ended, Refused, Reading, Choice, Submit, Finish, Wait, Verdict, WrongSlot, Good, Bad, Outcome, Field}

-- ---- submissions and completions of a turn

abbrev pub sent_in : Sent → ℕ
sent_in None = 0
sent_in (Some p) = 1

abbrev pub freed_in : Heard → ℕ
freed_in None = 0
freed_in (Some f) = 1

pub sent-size : (s : Sent) → length (trace_bytes (sent_then s [])) ≡ 12 * sent_in s
unfolding rows_bytes
sent-size None = refl
sent-size (Some p) = sym (one_size (field.Submitted p.slot p.offset p.len))

pub heard-size : (h : Heard) → length (trace_bytes (heard_then h [])) ≡ 8 * freed_in h
unfolding rows_bytes
heard-size None = refl
heard-size (Some f) = sym (one_size (field.Completed f.slot f.status))

going-size : length (trace_bytes (said_then Going [])) ≡ 0
unfolding rows_bytes
going-size = refl

-- what a turn that goes on writes takes 12 bytes a submission and 8 a completion
pub turn-size : (s : Sent) (h : Heard) → length (trace_bytes (turn_fields s h Going)) ≡ 12 * sent_in s + 8 * freed_in h
turn-size s h = let t = turn-length s h Going in let a = sent-size s in let b = heard-size h in let c = going-size in omega (arith, t, a, b, c)

-- ---- in flight: what went out and did not come back

settle-held : (v : Verdict) (sent : Sent) (t : Track) (slot status : ℕ) (o : Outcome) → Judged t slot o v → (settle v sent t slot status).track.inflight + freed_in (settle v sent t slot status).heard ≡ t.inflight
settle-held WrongSlot sent t slot status o j = add-zero t.inflight
settle-held Good sent t slot status o j = let h = j.0 in omega (arith, h)
settle-held (Bad a) sent t slot status o j = let h = j.0 in omega (arith, h)

hear-held : (sent : Sent) (t : Track) (o : Outcome) (reading : Reading) → (hear o sent t reading).track.inflight + freed_in (hear o sent t reading).heard ≡ t.inflight
hear-held sent t o None = add-zero t.inflight
hear-held sent t o (Some c) = settle-held (judge_of t c.slot o) sent t c.slot c.status o (judged t c.slot o)

settle-sent : (v : Verdict) (sent : Sent) (t : Track) (slot status : ℕ) → (settle v sent t slot status).sent ≡ sent
settle-sent WrongSlot sent t slot status = refl
settle-sent Good sent t slot status = refl
settle-sent (Bad a) sent t slot status = refl

pub hear-sent : (sent : Sent) (t : Track) (o : Outcome) (reading : Reading) → (hear o sent t reading).sent ≡ sent
hear-sent sent t o None = refl
hear-sent sent t o (Some c) = settle-sent (judge_of t c.slot o) sent t c.slot c.status

act-held : (c : Choice) (t : Track) (o : Outcome) (reading : Reading) → (act c t o reading).track.inflight + freed_in (act c t o reading).heard ≡ t.inflight + sent_in (act c t o reading).sent
act-held Submit t o reading =
    let h = hear-held (sent_of t) (submit t) o reading in
    let s = ap sent_in (hear-sent (sent_of t) (submit t) o reading) in
    omega (arith, h, s)
act-held Finish t o reading = refl
act-held Wait t o reading =
    let h = hear-held None t o reading in
    let s = ap sent_in (hear-sent None t o reading) in
    omega (arith, h, s)

pub record Same (s n : Step) : Type 0 where
  pub inflight : n.track.inflight ≡ s.track.inflight
  pub sent : n.sent ≡ s.sent
  pub heard : n.heard ≡ s.heard

pub counted_same : (s : Step) → Same s (counted_of s)
unfolding counted_of
counted_same s = by s.said (eqb (s.track.turns + 1) s.track.budget)
  where
    by : (k : Said) (b : Bool) → Same s (counted_by k b s)
    by Going true = record { inflight = refl; sent = refl; heard = refl }
    by Going false = record { inflight = refl; sent = refl; heard = refl }
    by Done b = record { inflight = refl; sent = refl; heard = refl }
    by (Ended a) b = record { inflight = refl; sent = refl; heard = refl }
    by (Refused r) b = record { inflight = refl; sent = refl; heard = refl }

-- ONE TURN: what is in flight afterwards and what came back are what was in flight and what went out
pub turn-held : (least : ℕ) (t : Track) (o : Outcome) (reading : Reading) → let s = counted_of (turn_of least t o reading) in s.track.inflight + freed_in s.heard ≡ t.inflight + sent_in s.sent
unfolding turn_of
turn-held least t o reading =
    let u = act (choose_of least t) t o reading in
    let k = counted_same u in
    let h = act-held (choose_of least t) t o reading in
    let a = k.inflight in
    let b = ap sent_in k.sent in
    let d = ap freed_in k.heard in
    omega (arith, h, a, b, d)

-- a line that goes on, before what follows
pub going-fields : (l : Line) (ls : List Line) → l.said ≡ Going → fields_of (l ∷ ls) ≡ turn_fields l.sent l.heard Going ++ fields_of ls
going-fields l ls e = ap (λ (k : Said). sent_then l.sent (heard_then l.heard (said_then k (fields_of ls)))) e ∙ by l.sent l.heard
  where
    heard-by : (h : Heard) (fs : List Field) → heard_then h fs ≡ heard_then h [] ++ fs
    heard-by None fs = refl
    heard-by (Some f) fs = refl

    by : (s : Sent) (h : Heard) → sent_then s (heard_then h (fields_of ls)) ≡ sent_then s (heard_then h []) ++ fields_of ls
    by None h = heard-by h (fields_of ls)
    by (Some p) h = ap (λ (x : List Field). field.Submitted p.slot p.offset p.len ∷ x) (heard-by h (fields_of ls))
