-- 2026-11: a room of 19 + 20 n bytes holds the trace of every run of n periods.
-- Assumes nothing.
use Rattle.std.specs.Prelude.{Bool, true, false, [], ◌≡◌, refl, ℕ, suc, ◌+◌, ◌*◌, ◌≤◌, ◌<◌, eqb, length, Some, None}
use Rattle.std.proofs.Common.{sym, ap, subst, ◌∙◌, suc-mul, lt_of_mul-lt-mul_right, arith}
use Rattle.layout.specs.Rows.{rows_bytes}
use Rattle.codes.specs.Answers.{says_refusal}
use Rattle.turns.specs.Rules.{choose_of, next_span, sent_of, submit, judge_of, settle, hear, act, turn_of, counted_by, counted_of}
use Rattle.turns.specs.RuleLaws.{Chosen, chosen}
use Rattle.turns.specs.KeepLaws.{after-act}
use Rattle.trace.specs.Field.{trace_bytes}
use Rattle.trace.specs.Trace.{said_then}
use Rattle.trace.specs.Private.{turn_fields}
use Rattle.trace.specs.PenLaws.{turn-length, one_size}
use Rattle.trace.specs.WriterLaws.{sent_in, freed_in, sent-size, heard-size, hear-sent, turn-held}
use Rattle.trace.specs.declared.field.Field.TheVariants as field
use Rattle.trace.specs.Types.{Track, Step, Sent, Said, Going, Done, Ended, Refused, Reading, Choice, Submit, Finish, Wait, Verdict, WrongSlot, Good, Bad, Outcome}

-- ---- periods: k went out, and the next starts behind them

settle-next : (v : Verdict) (sent : Sent) (t : Track) (slot status : ℕ) → (settle v sent t slot status).track.next ≡ t.next
settle-next WrongSlot sent t slot status = refl
settle-next Good sent t slot status = refl
settle-next (Bad a) sent t slot status = refl

hear-next : (sent : Sent) (t : Track) (o : Outcome) (reading : Reading) → (hear o sent t reading).track.next ≡ t.next
hear-next sent t o None = refl
hear-next sent t o (Some c) = settle-next (judge_of t c.slot o) sent t c.slot c.status

pub record Paced (n k : ℕ) (t : Track) : Type 0 where
  pub some : 0 < t.period
  pub all : t.total ≤ n * t.period
  pub next : t.next < t.total → t.next ≡ k * t.period
  pub few : k ≤ n

-- the step's numbers, whoever counts it
pub record Alike (s n : Step) : Type 0 where
  pub sent : n.sent ≡ s.sent
  pub next : n.track.next ≡ s.track.next
  pub total : n.track.total ≡ s.track.total
  pub period : n.track.period ≡ s.track.period

counted-alike : (s : Step) → Alike s (counted_of s)
unfolding counted_of
counted-alike s = by s.said (eqb (s.track.turns + 1) s.track.budget)
  where
    by : (k : Said) (b : Bool) → Alike s (counted_by k b s)
    by Going true = record { sent = refl; next = refl; total = refl; period = refl }
    by Going false = record { sent = refl; next = refl; total = refl; period = refl }
    by Done b = record { sent = refl; next = refl; total = refl; period = refl }
    by (Ended a) b = record { sent = refl; next = refl; total = refl; period = refl }
    by (Refused r) b = record { sent = refl; next = refl; total = refl; period = refl }

times : (k p : ℕ) → (k + 1) * p ≡ k * p + p
times k p = let e : k + 1 ≡ suc k = omega arith in ap (λ (z : ℕ). z * p) e ∙ suc-mul k p

abbrev Goes : ℕ → ℕ → Track → Step → Type 0
Goes n k t s = (k + sent_in s.sent ≤ n) × (s.track.next < t.total → s.track.next ≡ (k + sent_in s.sent) * t.period)

stays : (n k : ℕ) (t : Track) (s : Step) → Paced n k t → sent_in s.sent ≡ 0 → s.track.next ≡ t.next → Goes n k t s
stays n k t s p e q =
    let f = p.few in
    let z : k + sent_in s.sent ≡ k = omega (arith, e) in
    (omega (arith, f, z), λ h. q ∙ p.next (subst (λ (x : ℕ). x < t.total) q h) ∙ ap (λ (x : ℕ). x * t.period) (sym z))

act-goes : (least n k : ℕ) (c : Choice) (t : Track) (o : Outcome) (reading : Reading) → Chosen least t c → Paced n k t → Goes n k t (act c t o reading)
act-goes least n k Submit t o reading ch p =
    let s = hear o (sent_of t) (submit t) reading in
    let one : sent_in s.sent ≡ 1 = ap sent_in (hear-sent (sent_of t) (submit t) o reading) in
    let at : t.next ≡ k * t.period = p.next ch.1 in
    let more = ch.1 in
    let all = p.all in
    let less : k * t.period < n * t.period = omega (arith, at, more, all) in
    let below : k < n = lt_of_mul-lt-mul_right t.period less in
    let z : k + sent_in s.sent ≡ k + 1 = omega (arith, one) in
    let m = times k t.period in
    let w : (k + sent_in s.sent) * t.period ≡ k * t.period + t.period = ap (λ (x : ℕ). x * t.period) z ∙ m in
    let q : s.track.next ≡ t.next + next_span t = hear-next (sent_of t) (submit t) o reading in
    (omega (arith, z, below), λ h. omega (arith, h, q, at, w))
act-goes least n k Finish t o reading ch p = stays n k t (act Finish t o reading) p refl refl
act-goes least n k Wait t o reading ch p = stays n k t (act Wait t o reading) p (ap sent_in (hear-sent None t o reading)) (hear-next None t o reading)

-- a counted turn keeps the pace
paced : (least n k : ℕ) (t : Track) (o : Outcome) (reading : Reading) → Paced n k t → let s = counted_of (turn_of least t o reading) in Paced n (k + sent_in s.sent) s.track
unfolding turn_of
paced least n k t o reading p =
    let u = act (choose_of least t) t o reading in
    let g = act-goes least n k (choose_of least t) t o reading (chosen least t) p in
    let a = counted-alike u in
    let kept = (after-act (choose_of least t) t o reading).0 in
    let total : (counted_of u).track.total ≡ t.total = a.total ∙ ap (λ (x : ℕ × ℕ × ℕ × ℕ × ℕ). x.2) kept in
    let period : (counted_of u).track.period ≡ t.period = a.period ∙ ap (λ (x : ℕ × ℕ × ℕ × ℕ × ℕ). x.3) kept in
    let same : k + sent_in (counted_of u).sent ≡ k + sent_in u.sent = ap (λ (x : Sent). k + sent_in x) a.sent in
    record {
      some = subst (λ (x : ℕ). 0 < x) (sym period) p.some;
      all = subst (λ (x : ℕ). (counted_of u).track.total ≤ n * x) (sym period) (subst (λ (x : ℕ). x ≤ n * t.period) (sym total) p.all);
      next = λ h.
          a.next
          ∙ g.1 (subst (λ (x : ℕ). x < t.total) a.next (subst (λ (x : ℕ). (counted_of u).track.next < x) total h))
          ∙ ap (λ (x : ℕ). x * t.period) (sym same)
          ∙ ap (λ (x : ℕ). (k + sent_in (counted_of u).sent) * x) (sym period);
      few = subst (λ (x : ℕ). x ≤ n) (sym same) g.0;
    }

-- ---- what is written

said-small : (x : Said) → length (trace_bytes (said_then x [])) ≤ 4
unfolding rows_bytes
said-small Going = omega arith
said-small Done = let e = one_size (field.End 0) in omega (arith, e)
said-small (Ended a) = let e = one_size (field.End (says_refusal a).number) in omega (arith, e)
said-small (Refused r) = omega arith

-- ONE TURN, from the place that the ring tells (c good completions): what it writes fits in 19 + 20 n bytes, and the pace is kept
pub turn-fits : (least n c : ℕ) (t : Track) (o : Outcome) (reading : Reading) → Paced n (c + t.inflight) t
    → let s = counted_of (turn_of least t o reading) in 15 + 20 * c + 12 * t.inflight + length (trace_bytes (turn_fields s.sent s.heard s.said)) ≤ 19 + 20 * n
turn-fits least n c t o reading p =
    let s = counted_of (turn_of least t o reading) in
    let q = (paced least n (c + t.inflight) t o reading p).few in
    let h = turn-held least t o reading in
    let l = turn-length s.sent s.heard s.said in
    let a = sent-size s.sent in
    let b = heard-size s.heard in
    let d = said-small s.said in
    omega (arith, q, h, l, a, b, d)

pub turn-paces : (least n c : ℕ) (t : Track) (o : Outcome) (reading : Reading) → Paced n (c + t.inflight) t
    → let s = counted_of (turn_of least t o reading) in Paced n (c + freed_in s.heard + s.track.inflight) s.track
turn-paces least n c t o reading p =
    let s = counted_of (turn_of least t o reading) in
    let h = turn-held least t o reading in
    let e : c + t.inflight + sent_in s.sent ≡ c + freed_in s.heard + s.track.inflight = omega (arith, h) in
    subst (λ (k : ℕ). Paced n k s.track) e (paced least n (c + t.inflight) t o reading p)
