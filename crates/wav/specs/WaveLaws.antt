-- The laws of reading: the format of bits, a chain of refusals, and what a walk found.
-- Assumes nothing.
use Rattle.std.specs.Prelude.{◌≡◌, refl, Bool, true, false, List, [], ◌∷◌, ℕ, ◌*◌, ◌≤◌, ltb, get_or, Some, None, Result, Ok, Err}
use Rattle.std.proofs.Common.{sym, ap, ◌∙◌, mul-le-mul, arith, ne_eqb, le-ltb, lt-ltb}
use Rattle.codes.specs.Says.{says, guard}
use Rattle.codes.specs.SaysLaws.{took, passes, stops}
use Rattle.codes.specs.Answers.{says_refusal}
use Rattle.codes.specs.RefusalLaws.{refusal-is}
use Rattle.codes.specs.declared.answers.Refusal.{Refusal}
use Rattle.codes.specs.declared.answers.Refusal.TheVariants.{InvalidParam}
use Rattle.codes.specs.Codes.{number_says}
use Rattle.codes.specs.CodesLaws.{MissesOf}
use Rattle.wav.specs.Chunks.{fmt_tag, data_tag, Chunks, first_of}
use Rattle.wav.specs.ChunksLaws.{Found, told, no-place, first-fmt, lost}
use Rattle.wav.specs.Private.{walked}
use Rattle.wav.specs.Wave.{format_of_bits, wave_at, wave_in}
use Rattle.wav.specs.Types.{Placed, Wave, WaveError, NotWave}

pub no-format : (n : ℕ) → MissesOf (Unit {0}) n (8 ∷ 16 ∷ 24 ∷ 32 ∷ []) → format_of_bits n ≡ 25
no-format n m = simp (ne_eqb n 8 m.0.0.0.1, ne_eqb n 16 m.0.0.1, ne_eqb n 24 m.0.1, ne_eqb n 32 m.1)

-- what a search for a number came to
pub is_number : (b k v : ℕ) → says 0 (v ∷ []) ≡ number_says b k k → (ltb k b ≡ true) × (v ≡ k)
is_number b k v e = let t = took (ltb k b) 0 (k ∷ []) (v ∷ []) e in (t.0, ap (λ (l : List ℕ). get_or l 0 0) t.1)

pub no_number : (b k : ℕ) (r : Refusal) → says_refusal r ≡ number_says b k k → ltb k b ≡ false
no_number b k r e = (refusal-is (ltb k b) (k ∷ []) r InvalidParam e).0

pub small_product : (a b : ℕ) → a ≤ 255 → b ≤ 31 → a * b ≤ 7905
small_product a b h k = mul-le-mul h k

-- ---- A CHAIN OF REFUSALS: what is no refusal passed the test, and two ends that are one wherever the test holds make one chain

pub opened : {A : Type 0} (t : Bool) (a b x : A) → x ≡ guard t a b → (x ≡ a → ⊥) → (t ≡ true) × (x ≡ b)
unfolding guard
opened true a b x e n = (refl, e)
opened false a b x e n = absurd (n e)

pub under : {A : Type 0} (t : Bool) (a b c : A) → (t ≡ true → b ≡ c) → guard t a b ≡ guard t a c
unfolding guard
under true a b c f = f refl
under false a b c f = refl

-- ---- the chunks that a walk found

pub by-cut : (s : List ℕ) (c : Chunks) (e : WaveError) → Err e ≡ walked s c → Err e ≡ wave_in s c
by-cut s c e w = let l = lost s c e w in stops _ _ _ l.0 cc

-- one of the two kinds is not there
pub by-no_fmt : (s : List ℕ) (c : Chunks) (p : Placed) → Ok p ≡ walked s c → p.fmt ≡ None → Err NotWave ≡ wave_in s c
unfolding wave_at
by-no_fmt s c p w e =
    let t = told s c p w in
    let n : first_of s fmt_tag c ≤ 0 = let z = no-place (first_of s fmt_tag c) (sym e ∙ t.fmt) in omega (arith, z) in
    passes _ _ _ t.whole (stops _ _ _ (le-ltb 0 (first_of s fmt_tag c) n) refl)

pub by-no_frames : (s : List ℕ) (c : Chunks) (p : Placed) (f : ℕ) → Ok p ≡ walked s c → p.fmt ≡ Some f → p.frames ≡ None → Err NotWave ≡ wave_in s c
unfolding wave_at
by-no_frames s c p f w e g =
    let t = told s c p w in
    let h = first-fmt s c p f w e in
    let n : first_of s data_tag c ≤ first_of s fmt_tag c = let z = no-place (first_of s data_tag c) (sym g ∙ t.frames) in omega (arith, z) in
    passes _ _ _ t.whole (passes _ _ _ (lt-ltb 0 (first_of s fmt_tag c) h) (stops _ _ _ (le-ltb (first_of s fmt_tag c) (first_of s data_tag c) n) refl))

pub by-found : (s : List ℕ) (c : Chunks) (f d : ℕ) (x : Result Wave WaveError) → Found s c f d → x ≡ wave_at s f d → x ≡ wave_in s c
by-found s c f d x q e = passes _ _ _ q.whole (e ∙ (λ i. wave_at s (q.fmt i) (q.frames i)))
