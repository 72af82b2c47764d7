-- What rule 2's verdict on a period that was played says of its slot and its status.
-- Assumes nothing.
use Rattle.std.specs.Prelude.{ℕ, ◌<◌, ◌≡◌, refl, Err}
use Rattle.std.proofs.Common.{arith, sym, ap}
use Rattle.codes.specs.Answers.{says_refusal}
use Rattle.codes.specs.declared.answers.Refusal.{Refusal}
use Rattle.turns.specs.Rules.{played_of, judge_of, release}
use Rattle.turns.specs.RuleLaws.{Judged, judged, played-fine, played-fails}
use Rattle.trace.specs.Judge.{on, freed_move}
use Rattle.trace.specs.Types.{Track, Verdict, WrongSlot, Good, Bad, Back, Failed}

abbrev pub Played : Track → ℕ → ℕ → Verdict → Type 0
Played t slot status WrongSlot = 0 < t.inflight → slot ≡ t.tail → ⊥
Played t slot status Good = (0 < t.inflight) × (slot ≡ t.tail) × (status ≡ 0x8000)
Played t slot status (Bad r) = (0 < t.inflight) × (slot ≡ t.tail) × (status ≡ 0x8000 → ⊥) × ((says_refusal r).number ≡ 2)

played-by : (t : Track) (slot status : ℕ) (v : Verdict) → Judged t slot (played_of status) v → Played t slot status v
played-by t slot status WrongSlot j = j
played-by t slot status Good j = (j.0, j.1, played-fine status j.2)
played-by t slot status (Bad r) j = let f = played-fails status r j.2 in (j.0, j.1, f.0, ap (λ (x : Refusal). (says_refusal x).number) (sym f.1))

pub played : (t : Track) (slot status : ℕ) → Played t slot status (judge_of t slot (played_of status))
played t slot status = played-by t slot status (judge_of t slot (played_of status)) (judged t slot (played_of status))

-- ---- each return of the code

frees-by : (t u : Track) (slot status : ℕ) (v : Verdict) → u ≡ release t → Played t slot status v → 0 < t.inflight → slot ≡ t.tail
    → (status ≡ 0x8000 → on Back u ≡ freed_move v t) × ((status ≡ 0x8000 → ⊥) → on Failed u ≡ freed_move v t)
frees-by t u slot status WrongSlot e j h q = absurd (j h q)
frees-by t u slot status Good e j h q = (λ _. ap (on Back) e, λ n. absurd (n j.2))
frees-by t u slot status (Bad r) e j h q = (λ s. absurd (j.2 s), λ _. ap (on Failed) e)

strays : (t : Track) (slot status : ℕ) (v : Verdict) → Played t slot status v → (0 < t.inflight → slot ≡ t.tail → ⊥) → Err 3 ≡ freed_move v t
strays t slot status WrongSlot j n = refl
strays t slot status Good j n = absurd (n j.0 j.1)
strays t slot status (Bad r) j n = absurd (n j.0 j.1)

module _ (t : Track) (slot status : ℕ) where
  pub frees-none : t.inflight ≡ 0 → Err 3 ≡ freed_move (judge_of t slot (played_of status)) t
  frees-none z = strays t slot status (judge_of t slot (played_of status)) (played t slot status) (λ h _. omega arith)

  pub frees-other : (slot ≡ t.tail → ⊥) → Err 3 ≡ freed_move (judge_of t slot (played_of status)) t
  frees-other n = strays t slot status (judge_of t slot (played_of status)) (played t slot status) (λ _. n)

  pub frees-good : (u : Track) → u ≡ release t → (t.inflight ≡ 0 → ⊥) → slot ≡ t.tail → status ≡ 0x8000 → on Back u ≡ freed_move (judge_of t slot (played_of status)) t
  frees-good u e n q s = let h : 0 < t.inflight = omega (arith, n) in (frees-by t u slot status (judge_of t slot (played_of status)) e (played t slot status) h q).0 s

  pub frees-bad : (u : Track) → u ≡ release t → (t.inflight ≡ 0 → ⊥) → slot ≡ t.tail → (status ≡ 0x8000 → ⊥) → on Failed u ≡ freed_move (judge_of t slot (played_of status)) t
  frees-bad u e n q s = let h : 0 < t.inflight = omega (arith, n) in (frees-by t u slot status (judge_of t slot (played_of status)) e (played t slot status) h q).1 s
