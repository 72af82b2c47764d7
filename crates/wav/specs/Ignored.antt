-- "bytes past the RIFF size .. are ignored": a file that has all of its RIFF says the same, whatever follows.
-- Assumes nothing.
use Rattle.std.specs.Prelude.{◌≡◌, Bool, true, false, leb, ltb, eqb, length, Result, Ok, Err}
use Rattle.std.proofs.Math.Path.{refl, sym, ap, ap₂}
use Rattle.std.proofs.Common.{◌∙◌}
use mathlib.Core.List.{List, ◌∷◌, ◌++◌}
use Prim.Native.Nat.{ℕ, zero, suc, ◌+◌, ◌-◌, ◌<◌, ◌≤◌}
use native.Mathlib.Omega.{arith}
use Rattle.std.proofs.Math.ListN.{length-append, get_or-append}
use borrow.Author.Tests.{leb-true, leb-false, le-leb, ltb-true}
use Rattle.layout.specs.Bytes.{le, un, bytes_at, num_at, zeros}
use Rattle.codes.specs.Says.{pick, guard}
use Rattle.wav.specs.Chunks.{riff_tag, wave_tag, fmt_tag, data_tag, padded, chunk, chunks_at, laid, first_of}
use Rattle.wav.specs.ChunksLaws.{ends, fits, Found, fmt-within, frames-within}
use Rattle.wav.specs.Wave.{sound_of, sound_at, wave_by, wave_at, wave_in, wave_of, wrote_of, header_of, file_of}
use Rattle.wav.specs.WaveLaws.{under}
use Rattle.wav.specs.RoundTrip.{read_back, written, written-reads-back}
use Rattle.wav.specs.Types.{Sound, WaveError, NotWave}

module _ (s t : List ℕ) where
  same_bytes : (o n : ℕ) → o + n ≤ length s → bytes_at o n (s ++ t) ≡ bytes_at o n s
  unfolding bytes_at
  same_bytes o zero h = refl
  same_bytes o (suc n) h = ap₂ (λ (x : ℕ) (l : List ℕ). x ∷ l) (get_or-append s t 0 o (omega arith)) (same_bytes (suc o) n (omega arith))

  same-num : (o n : ℕ) → o + n ≤ length s → num_at o n (s ++ t) ≡ num_at o n s
  unfolding num_at
  same-num o n h = ap un (same_bytes o n h)

  -- a chunk's header is read in the RIFF, or the chunk is cut whatever is read
  same_rest : (o n : ℕ) → o + suc n ≤ length s → (q : Bool) → leb 7 n ≡ q
      → chunks_at (s ++ t) (suc o) (7 + padded (num_at (o + 4) 4 (s ++ t))) n ≡ chunks_at s (suc o) (7 + padded (num_at (o + 4) 4 (s ++ t))) n
      → chunks_at (s ++ t) (suc o) (7 + padded (num_at (o + 4) 4 (s ++ t))) n ≡ chunks_at s (suc o) (7 + padded (num_at (o + 4) 4 s)) n
  same_rest o n h true e ih =
      let l : 7 ≤ n = leb-true 7 n e in
      ih ∙ ap (λ (x : ℕ). chunks_at s (suc o) (7 + padded x) n) (same-num (o + 4) 4 (omega arith))
  same_rest o n h false e ih =
      let l : n < 7 = leb-false 7 n e in
      ends (s ++ t) (suc o) (7 + padded (num_at (o + 4) 4 (s ++ t))) n (omega arith) ∙ sym (ends s (suc o) (7 + padded (num_at (o + 4) 4 s)) n (omega arith))

  same-chunks : (o k n : ℕ) → o + n ≤ length s → chunks_at (s ++ t) o k n ≡ chunks_at s o k n
  unfolding chunks_at
  same-chunks o zero zero h = refl
  same-chunks o (suc k) zero h = refl
  same-chunks o (suc k) (suc n) h = same-chunks (suc o) k n (omega arith)
  same-chunks o zero (suc n) h =
      let a = 7 + padded (num_at (o + 4) 4 (s ++ t)) in
      ap (chunk o) (same_rest o n h (leb 7 n) refl (same-chunks (suc o) a n (omega arith)))

  same_first : (tag o k n : ℕ) → o + n ≤ length s → laid (chunks_at s o k n) ≡ true → first_of (s ++ t) tag (chunks_at s o k n) ≡ first_of s tag (chunks_at s o k n)
  unfolding chunks_at
  same_first tag o zero zero h e = refl
  same_first tag o (suc k) zero h e = refl
  same_first tag o (suc k) (suc n) h e = same_first tag (suc o) k n (omega arith) e
  same_first tag o zero (suc n) h e =
      let f = fits s (suc o) (7 + padded (num_at (o + 4) 4 s)) n e in
      ap₂ (λ (x y : ℕ). pick (eqb x tag) o y) (same-num o 4 (omega arith)) (same_first tag (suc o) (7 + padded (num_at (o + 4) 4 s)) n (omega arith) e)

  same-data : (x : Result Sound WaveError) (d : ℕ) → d + 8 ≤ length s → wave_by x (s ++ t) d ≡ wave_by x s d
  same-data (Ok y) d h = ap (λ (n : ℕ). Ok (record { sound = y; offset = d + 8; len = n })) (same-num (d + 4) 4 (omega arith))
  same-data (Err e) d h = refl

  same-sound : (f d : ℕ) → f + 24 ≤ length s → d + 8 ≤ length s → wave_by (sound_at (s ++ t) (f + 8)) (s ++ t) d ≡ wave_by (sound_at s (f + 8)) s d
  same-sound f d h k =
      (λ i.
      wave_by
      (sound_of (same-num (f + 8) 2 (omega arith) i) (same-num (f + 8 + 2) 2 (omega arith) i) (same-num (f + 8 + 4) 4 (omega arith) i) (same-num (f + 8 + 12) 2 (omega arith) i) (same-num (f + 8 + 14) 2 (omega arith) i))
      (s ++ t) d)
      ∙ same-data (sound_at s (f + 8)) d k

  -- the two chunks lie in the RIFF
  same_place : (e f d : ℕ) → 12 ≤ e → e ≤ length s → Found s (chunks_at s 12 0 (e - 12)) f d → wave_at (s ++ t) f d ≡ wave_at s f d
  unfolding wave_at
  same_place e f d h k q =
      under (ltb 0 f) _ _ _
      (λ e₁.
      under (ltb f d) _ _ _
      (λ e₂.
      let z : 0 < f = ltb-true 0 f e₁ in
      let y : f < d = ltb-true f d e₂ in
      let a = fmt-within s e f d h q z in
      let b = frames-within s e f d h q (omega arith) in
      ap (λ (x : ℕ). guard (leb 16 x) (Err NotWave) (wave_by (sound_at (s ++ t) (f + 8)) (s ++ t) d)) (same-num (f + 4) 4 (omega arith))
      ∙ under (leb 16 (num_at (f + 4) 4 s)) _ _ _ (λ e₃. let l : 16 ≤ num_at (f + 4) 4 s = leb-true 16 (num_at (f + 4) 4 s) e₃ in same-sound f d (omega arith) (omega arith))))

  same_in : (e : ℕ) → 12 ≤ e → e ≤ length s → wave_in (s ++ t) (chunks_at (s ++ t) 12 0 (e - 12)) ≡ wave_in s (chunks_at s 12 0 (e - 12))
  same_in e h k =
      let c = chunks_at s 12 0 (e - 12) in
      ap (wave_in (s ++ t)) (same-chunks 12 0 (e - 12) (omega arith))
      ∙ under (laid c) _ _ _
      (λ l.
      (λ i. wave_at (s ++ t) (same_first fmt_tag 12 0 (e - 12) (omega arith) l i) (same_first data_tag 12 0 (e - 12) (omega arith) l i))
      ∙ same_place e (first_of s fmt_tag c) (first_of s data_tag c) h k (record { whole = l; fmt = refl; frames = refl }))

  -- where the RIFF is all there
  pub past-ignored : 8 + num_at 4 4 s ≤ length s → wave_of (s ++ t) ≡ wave_of s
  unfolding wave_of
  past-ignored h =
      let n = num_at 4 4 s in
      let m : num_at 4 4 (s ++ t) ≡ n = same-num 4 4 (omega arith) in
      let l = length-append s t in
      let rest = guard (eqb (num_at 8 4 (s ++ t)) wave_tag) (Err NotWave) (wave_in (s ++ t) (chunks_at (s ++ t) 12 0 (n - 4))) in
      (λ i.
      guard (eqb (same-num 0 4 (omega arith) i) riff_tag) (Err NotWave)
      (guard (leb 4 (m i)) (Err NotWave)
      (guard (leb (8 + m i) (length (s ++ t))) (Err NotWave)
      (guard (eqb (num_at 8 4 (s ++ t)) wave_tag) (Err NotWave)
      (wave_in (s ++ t) (chunks_at (s ++ t) 12 0 (m i - 4)))))))
      ∙ under (eqb (num_at 0 4 s) riff_tag) _ _ _
      (λ e₁.
      under (leb 4 n) _ _ _
      (λ e₂.
      let z : 4 ≤ n = leb-true 4 n e₂ in
      let p : n - 4 ≡ 8 + n - 12 = omega arith in
      ap (λ (x : Bool). guard x (Err NotWave) rest) (le-leb (8 + n) (length (s ++ t)) (omega arith) ∙ sym (le-leb (8 + n) (length s) h))
      ∙ under (leb (8 + n) (length s)) _ _ _
      (λ e₃.
      (λ i. guard (eqb (same-num 8 4 (omega arith) i) wave_tag) (Err NotWave) (wave_in (s ++ t) (chunks_at (s ++ t) 12 0 (p i))))
      ∙ under (eqb (num_at 8 4 s) wave_tag) _ _ _ (λ e₄. same_in (8 + n) (omega arith) h ∙ ap (λ (x : ℕ). wave_in s (chunks_at s 12 0 x)) (sym p)))))

-- the file of RoundTrip has all of its RIFF
all_there : leb (8 + num_at 4 4 written) (length written) ≡ true
unfolding num_at un bytes_at zeros wrote_of guard file_of header_of le
all_there = refl

pub written-whole : (t : List ℕ) → wave_of (written ++ t) ≡ read_back 1 5 1 4
written-whole t = past-ignored written t (leb-true (8 + num_at 4 4 written) (length written) all_there) ∙ written-reads-back
