-- The laws of the walk over chunks.
-- Assumes nothing.
use Rattle.std.specs.Prelude.{◌≡◌, refl, Bool, true, false, List, [], ◌∷◌, eqb, length, Option, Some, None, Result, Ok, Err}
use Rattle.std.specs.Option.{option_or}
use Rattle.std.specs.Bool.{then_some}
use Rattle.std.proofs.Common.{sym, ap, ◌∙◌}
use Prim.Native.Nat.{ℕ, zero, suc, ◌+◌, ◌-◌, ◌%◌, ◌<◌, ◌≤◌}
use native.Mathlib.Omega.{arith}
use Rattle.layout.specs.Bytes.{le, num_at}
use Rattle.codes.specs.Says.{pick}
use Rattle.codes.specs.SaysLaws.{picks, skips}
use Rattle.wav.specs.Chunks.{riff_tag, wave_tag, fmt_tag, data_tag, padded, Chunks, cut, chunk, chunks_at, laid, first_of}
use Rattle.wav.specs.Private.{place, walked}
use Rattle.wav.specs.Types.{Placed, WaveError, NotWave}

-- the tags are their letters
pub letters : (le 4 riff_tag ≡ 82 ∷ 73 ∷ 70 ∷ 70 ∷ []) × ((le 4 wave_tag ≡ 87 ∷ 65 ∷ 86 ∷ 69 ∷ []) × ((le 4 fmt_tag ≡ 102 ∷ 109 ∷ 116 ∷ 32 ∷ []) × (le 4 data_tag ≡ 100 ∷ 97 ∷ 116 ∷ 97 ∷ [])))
unfolding le
letters = (refl, (refl, (refl, refl)))

-- ---- a chunk's bytes are passed, or the bytes end within them

passed : (s : List ℕ) (o k n : ℕ) → k ≤ n → chunks_at s o k n ≡ chunks_at s (o + k) 0 (n - k)
unfolding chunks_at
passed s o zero n h =
    let a : o ≡ o + 0 = omega arith in
    let b : n ≡ n - 0 = omega arith in
    λ i. chunks_at s (a i) 0 (b i)
passed s o (suc k) zero h = absurd (omega arith)
passed s o (suc k) (suc n) h =
    let a : suc o + k ≡ o + suc k = omega arith in
    let b : n - k ≡ suc n - suc k = omega arith in
    passed s (suc o) k n (omega arith) ∙ (λ i. chunks_at s (a i) 0 (b i))

pub ends : (s : List ℕ) (o k n : ℕ) → n < k → chunks_at s o k n ≡ cut
unfolding chunks_at
ends s o zero n h = absurd (omega arith)
ends s o (suc k) zero h = refl
ends s o (suc k) (suc n) h = ends s (suc o) k n (omega arith)

pub fits : (s : List ℕ) (o k n : ℕ) → laid (chunks_at s o k n) ≡ true → k ≤ n
unfolding chunks_at
fits s o zero n e = omega arith
fits s o (suc k) zero e = absurd (no e)
  where
    no : ◌≡◌ {A = Bool} false true → ⊥
    no e = let z : ◌≡◌ {A = ℕ} 0 1 = ap (λ (t : Bool). pick t 1 0) e in omega arith
fits s o (suc k) (suc n) e = let h : k ≤ n = fits s (suc o) k n e in omega arith

-- the next chunk, and what follows it
pub next : (s : List ℕ) (o n t : ℕ) → t ≡ 8 + padded (num_at (o + 4) 4 s) → t ≤ n → chunks_at s o 0 n ≡ chunk o (chunks_at s (o + t) 0 (n - t))
unfolding chunks_at
next s o zero t e h = absurd (omega arith)
next s o (suc n) t e h =
    let p = padded (num_at (o + 4) 4 s) in
    let a : suc o + (7 + p) ≡ o + t = omega arith in
    let b : n - (7 + p) ≡ suc n - t = omega arith in
    ap (chunk o) (passed s (suc o) (7 + p) n (omega arith) ∙ (λ i. chunks_at s (a i) 0 (b i)))

-- a chunk that goes past the end
past : (s : List ℕ) (o n t : ℕ) → t ≡ 8 + padded (num_at (o + 4) 4 s) → 0 < n → n < t → laid (chunks_at s o 0 n) ≡ false
unfolding chunks_at
past s o zero t e z h = absurd (omega arith)
past s o (suc n) t e z h = ap laid (ends s (suc o) (7 + padded (num_at (o + 4) 4 s)) n (omega arith))

-- ---- THE WALK that came to chunks b of a: it found f and d before

pub record Came (s : List ℕ) (a b : Chunks) (f d : Option ℕ) : Type 0 where
  pub whole : laid a ≡ laid b
  pub fmt : place (first_of s fmt_tag a) ≡ option_or f (place (first_of s fmt_tag b))
  pub frames : place (first_of s data_tag a) ≡ option_or d (place (first_of s data_tag b))

pub begins : (s : List ℕ) (a : Chunks) → Came s a a None None
begins s a = record { whole = refl; fmt = refl; frames = refl }

-- a place above 0 that was found is kept
keeps : (f : Option ℕ) (o x : ℕ) (t : Bool) → 0 < o → option_or f (place (pick t o x)) ≡ option_or (option_or f (then_some t o)) (place x)
keeps None zero x true h = absurd (omega arith)
keeps None (suc o) x true h = refl
keeps None o x false h = refl
keeps (Some f) o x t h = refl

pub goes_on : (s : List ℕ) (a : Chunks) (o n t : ℕ) (f d : Option ℕ) → 0 < o → t ≡ 8 + padded (num_at (o + 4) 4 s) → t ≤ n → Came s a (chunks_at s o 0 n) f d
    → Came s a (chunks_at s (o + t) 0 (n - t)) (option_or f (then_some (eqb (num_at o 4 s) fmt_tag) o)) (option_or d (then_some (eqb (num_at o 4 s) data_tag) o))
goes_on s a o n t f d z e h c =
    let q = next s o n t e h in
    record {
      whole = c.whole ∙ ap laid q;
      fmt = c.fmt ∙ ap (λ (x : Chunks). option_or f (place (first_of s fmt_tag x))) q ∙ keeps f o (first_of s fmt_tag (chunks_at s (o + t) 0 (n - t))) (eqb (num_at o 4 s) fmt_tag) z;
      frames = c.frames ∙ ap (λ (x : Chunks). option_or d (place (first_of s data_tag x))) q ∙ keeps d o (first_of s data_tag (chunks_at s (o + t) 0 (n - t))) (eqb (num_at o 4 s) data_tag) z;
    }

-- what a walk to the end says
abbrev at_places : List ℕ → Chunks → Result Placed WaveError
at_places s c = Ok (record { fmt = place (first_of s fmt_tag c); frames = place (first_of s data_tag c) })

pub is_cut : (s : List ℕ) (a : Chunks) (o n : ℕ) (f d : Option ℕ) → 0 < n → n < 8 + padded (num_at (o + 4) 4 s) → Came s a (chunks_at s o 0 n) f d → Err NotWave ≡ walked s a
unfolding walked
is_cut s a o n f d z h c = sym (ap (λ (t : Bool). pick t (at_places s a) (Err NotWave)) (c.whole ∙ past s o n (8 + padded (num_at (o + 4) 4 s)) refl z h))

or-none : (f : Option ℕ) → option_or f None ≡ f
or-none None = refl
or-none (Some f) = refl

pub is-laid : (s : List ℕ) (a : Chunks) (o : ℕ) (f d : Option ℕ) → Came s a (chunks_at s o 0 0) f d → Ok (record { fmt = f; frames = d }) ≡ walked s a
unfolding walked chunks_at
is-laid s a o f d c =
    sym
    (ap (λ (t : Bool). pick t (at_places s a) (Err NotWave)) c.whole
    ∙ (λ i. Ok (record { fmt = (c.fmt ∙ or-none f) i; frames = (c.frames ∙ or-none d) i })))

-- ---- the walk's code: a turn of the loop

pub turns-on : (s : List ℕ) (a : Chunks) (at end t size tag : ℕ) (f d f₁ d₁ : Option ℕ) → 0 < at
    → size ≡ num_at (at + 4) 4 s → tag ≡ num_at at 4 s → t ≡ 8 + size + size % 2 → t ≤ end - at
    → f₁ ≡ option_or f (then_some (eqb tag fmt_tag) at) → d₁ ≡ option_or d (then_some (eqb tag data_tag) at)
    → Came s a (chunks_at s at 0 (end - at)) f d → Came s a (chunks_at s (at + t) 0 (end - (at + t))) f₁ d₁
turns-on s a at end t size tag f d f₁ d₁ z es et e h ef ed c =
    let q : end - (at + t) ≡ end - at - t = omega arith in
    let p : t ≡ 8 + padded (num_at (at + 4) 4 s) = rw (← es) (omega arith) in
    rw (ef, ed, et, q) (goes_on s a at (end - at) t f d z p h c)

-- ---- a chunk that was found is there whole

module _ (s : List ℕ) (tag : ℕ) where
  -- where the chunk at f ends
  abbrev pub end_of : ℕ → ℕ
  end_of f = f + (8 + padded (num_at (f + 4) 4 s))

  here : (t : Bool) (o n x f : ℕ) → 7 + padded (num_at (o + 4) 4 s) ≤ n → (f ≡ x → end_of f ≤ suc o + n) → f ≡ pick t o x → end_of f ≤ o + suc n
  here true o n x f h ih q = rw q (omega arith)
  here false o n x f h ih q = let z : f + (8 + padded (num_at (f + 4) 4 s)) ≤ suc o + n = ih q in omega arith

  pub within : (o k n f : ℕ) → laid (chunks_at s o k n) ≡ true → f ≡ first_of s tag (chunks_at s o k n) → 0 < f → end_of f ≤ o + n
  unfolding chunks_at
  within o zero zero f e q z = absurd (omega arith)
  within o (suc k) zero f e q z = let h = fits s o (suc k) 0 e in absurd (omega arith)
  within o (suc k) (suc n) f e q z = let h = within (suc o) k n f e q z in omega arith
  within o zero (suc n) f e q z =
      let k = 7 + padded (num_at (o + 4) 4 s) in
      here (eqb (num_at o 4 s) tag) o n (first_of s tag (chunks_at s (suc o) k n)) f (fits s (suc o) k n e) (λ p. within (suc o) k n f e p z) q

-- ---- what the walk found, and what was chosen of it, lies within the bytes

pub record Found (s : List ℕ) (c : Chunks) (f d : ℕ) : Type 0 where
  pub whole : laid c ≡ true
  pub fmt : f ≡ first_of s fmt_tag c
  pub frames : d ≡ first_of s data_tag c

-- what the walk told
pub record Told (s : List ℕ) (c : Chunks) (p : Placed) : Type 0 where
  pub whole : laid c ≡ true
  pub fmt : p.fmt ≡ place (first_of s fmt_tag c)
  pub frames : p.frames ≡ place (first_of s data_tag c)

pub told : (s : List ℕ) (c : Chunks) (p : Placed) → Ok p ≡ walked s c → Told s c p
unfolding walked
told s c p w = taken (laid c) refl
  where
    taken : (t : Bool) → laid c ≡ t → Told s c p
    taken true l =
        let q : Ok p ≡ at_places s c = w ∙ picks (laid c) (at_places s c) (Err NotWave) l in
        let r : p ≡ record { fmt = place (first_of s fmt_tag c); frames = place (first_of s data_tag c) } = cc in
        record { whole = l; fmt = ap (λ (x : Placed). x.fmt) r; frames = ap (λ (x : Placed). x.frames) r }
    taken false l =
        let q : ◌≡◌ {A = Result Placed WaveError} (Ok p) (Err NotWave) = w ∙ skips (laid c) (at_places s c) (Err NotWave) l in
        let z : ◌≡◌ {A = ℕ} 0 1 = cc in
        absurd (omega arith)

-- a place that was found is above 0; none was found at 0
place_is : (f n : ℕ) → Some f ≡ place n → (f ≡ n) × (0 < f)
place_is f zero e = let z : ◌≡◌ {A = ℕ} 0 1 = cc in absurd (omega arith)
place_is f (suc n) e = let z : f ≡ suc n = cc in (z, omega arith)

pub no-place : (n : ℕ) → None ≡ place n → n ≡ 0
no-place zero e = refl
no-place (suc n) e = let z : ◌≡◌ {A = ℕ} 0 1 = cc in absurd (omega arith)

pub found : (s : List ℕ) (c : Chunks) (p : Placed) (f d : ℕ) → Ok p ≡ walked s c → p.fmt ≡ Some f → p.frames ≡ Some d → Found s c f d
found s c p f d w e g =
    let t = told s c p w in
    record { whole = t.whole; fmt = (place_is f _ (sym e ∙ t.fmt)).0; frames = (place_is d _ (sym g ∙ t.frames)).0 }

pub first-fmt : (s : List ℕ) (c : Chunks) (p : Placed) (f : ℕ) → Ok p ≡ walked s c → p.fmt ≡ Some f → 0 < first_of s fmt_tag c
first-fmt s c p f w e = let q = place_is f (first_of s fmt_tag c) (sym e ∙ (told s c p w).fmt) in let a = q.0 in let b = q.1 in omega (arith, a, b)

pub some-fmt : (s : List ℕ) (c : Chunks) (p : Placed) (f : ℕ) → Ok p ≡ walked s c → p.fmt ≡ Some f → 0 < f
some-fmt s c p f w e = (place_is f _ (sym e ∙ (told s c p w).fmt)).1

-- a walk that is refused says 13: a chunk is cut
pub lost : (s : List ℕ) (c : Chunks) (e : WaveError) → Err e ≡ walked s c → (laid c ≡ false) × ◌≡◌ {A = Result Placed WaveError} (Err e) (Err NotWave)
unfolding walked
lost s c e w = let l = taken (laid c) refl in (l, w ∙ skips (laid c) (at_places s c) (Err NotWave) l)
  where
    taken : (t : Bool) → laid c ≡ t → laid c ≡ false
    taken true l =
        let q : Err e ≡ at_places s c = w ∙ picks (laid c) (at_places s c) (Err NotWave) l in
        let z : ◌≡◌ {A = ℕ} 0 1 = cc in
        absurd (omega arith)
    taken false l = l

pub fmt-within : (s : List ℕ) (e f d : ℕ) → 12 ≤ e → Found s (chunks_at s 12 0 (e - 12)) f d → 0 < f → f + (8 + padded (num_at (f + 4) 4 s)) ≤ e
fmt-within s e f d h q z = let p = within s fmt_tag 12 0 (e - 12) f q.whole q.fmt z in omega arith

pub frames-within : (s : List ℕ) (e f d : ℕ) → 12 ≤ e → Found s (chunks_at s 12 0 (e - 12)) f d → 0 < d → d + (8 + padded (num_at (d + 4) 4 s)) ≤ e
frames-within s e f d h q z = let p = within s data_tag 12 0 (e - 12) d q.whole q.frames z in omega arith

-- the first 16 bytes of the one, and all of the other
pub both-within : (s : List ℕ) (e f d : ℕ) → 12 ≤ e → e ≤ length s → Found s (chunks_at s 12 0 (e - 12)) f d → 0 < f → f < d → 16 ≤ num_at (f + 4) 4 s
    → (f + 8 + 16 ≤ length s) × (d + 8 + num_at (d + 4) 4 s ≤ length s)
both-within s e f d h k q z y l =
    let a = fmt-within s e f d h q z in
    let b = frames-within s e f d h q (omega arith) in
    (omega arith, omega arith)
