-- "Show the data chunk as a part of the file itself": the part that is shown lies in the file, with all its bytes.
-- Assumes nothing.
use Rattle.std.specs.Prelude.{◌≡◌, refl, List, ℕ, ◌+◌, ◌-◌, ◌<◌, ◌≤◌, leb, ltb, eqb, drop, Result, Ok, Err}
use Rattle.std.proofs.Common.{sym, ◌∙◌, length-drop, length-take-le}
use Rattle.std.proofs.Math.Path.{ap}
use native.Mathlib.Omega.{arith}
use Rattle.std.proofs.Math.ListN.{length}
use borrow.Author.Tests.{ltb-true, leb-true}
use Rattle.layout.specs.Bytes.{num_at}
use Rattle.codes.specs.Says.{guard}
use Rattle.wav.specs.Chunks.{riff_tag, wave_tag, fmt_tag, data_tag, chunks_at, laid, first_of}
use Rattle.wav.specs.ChunksLaws.{frames-within}
use Rattle.wav.specs.Wave.{sound_at, wave_by, wave_at, wave_in, wave_of, shown_by}
use Rattle.wav.specs.WaveLaws.{opened}
use Rattle.wav.specs.RoundTrip.{written, written-reads-back}
use Rattle.wav.specs.Types.{Sound, Wave, WaveError, NotWave}

module _ (s : List ℕ) (w : Wave) where
  read-is-no-refusal : ◌≡◌ {A = Result Wave WaveError} (Ok w) (Err NotWave) → ⊥
  read-is-no-refusal q = let z : ◌≡◌ {A = ℕ} 0 1 = cc in omega arith

  -- the sound was taken
  by-sound : (x : Result Sound WaveError) (d : ℕ) → Ok w ≡ wave_by x s d → (w.offset ≡ d + 8) × (w.len ≡ num_at (d + 4) 4 s)
  by-sound (Ok y) d e = (cc, cc)
  by-sound (Err b) d e = let z : ◌≡◌ {A = ℕ} 0 1 = cc in absurd (omega arith)

  -- the tests of the two chunks were passed
  by_place : (f d : ℕ) → Ok w ≡ wave_at s f d → (0 < d) × ((w.offset ≡ d + 8) × (w.len ≡ num_at (d + 4) 4 s))
  unfolding wave_at
  by_place f d e =
      let t₃ = guard (leb 16 (num_at (f + 4) 4 s)) (Err NotWave) (wave_by (sound_at s (f + 8)) s d) in
      let t₂ = guard (ltb f d) (Err NotWave) t₃ in
      let p₁ = opened (ltb 0 f) (Err NotWave) t₂ (Ok w) e read-is-no-refusal in
      let p₂ = opened (ltb f d) (Err NotWave) t₃ (Ok w) p₁.1 read-is-no-refusal in
      let p₃ = opened (leb 16 (num_at (f + 4) 4 s)) (Err NotWave) (wave_by (sound_at s (f + 8)) s d) (Ok w) p₂.1 read-is-no-refusal in
      let h : f < d = ltb-true f d p₂.0 in
      (omega arith, by-sound (sound_at s (f + 8)) d p₃.1)

  by-chunks : (e : ℕ) → 12 ≤ e → e ≤ length s → Ok w ≡ wave_in s (chunks_at s 12 0 (e - 12)) → w.offset + w.len ≤ length s
  by-chunks e h k q =
      let c = chunks_at s 12 0 (e - 12) in
      let f = first_of s fmt_tag c in
      let d = first_of s data_tag c in
      let p = opened (laid c) (Err NotWave) (wave_at s f d) (Ok w) q read-is-no-refusal in
      let b = by_place f d p.1 in
      let i = frames-within s e f d h (record { whole = p.0; fmt = refl; frames = refl }) b.0 in
      let o : w.offset ≡ d + 8 = b.1.0 in
      let l : w.len ≡ num_at (d + 4) 4 s = b.1.1 in
      omega arith

  pub shown-within : Ok w ≡ wave_of s → w.offset + w.len ≤ length s
  unfolding wave_of
  shown-within e =
      let n = num_at 4 4 s in
      let t₅ = wave_in s (chunks_at s 12 0 (n - 4)) in
      let t₄ = guard (eqb (num_at 8 4 s) wave_tag) (Err NotWave) t₅ in
      let t₃ = guard (leb (8 + n) (length s)) (Err NotWave) t₄ in
      let t₂ = guard (leb 4 n) (Err NotWave) t₃ in
      let p₁ = opened (eqb (num_at 0 4 s) riff_tag) (Err NotWave) t₂ (Ok w) e read-is-no-refusal in
      let p₂ = opened (leb 4 n) (Err NotWave) t₃ (Ok w) p₁.1 read-is-no-refusal in
      let p₃ = opened (leb (8 + n) (length s)) (Err NotWave) t₄ (Ok w) p₂.1 read-is-no-refusal in
      let p₄ = opened (eqb (num_at 8 4 s) wave_tag) (Err NotWave) t₅ (Ok w) p₃.1 read-is-no-refusal in
      let h : 4 ≤ n = leb-true 4 n p₂.0 in
      let k : 8 + n ≤ length s = leb-true (8 + n) (length s) p₃.0 in
      let m : n - 4 ≡ 8 + n - 12 = omega arith in
      by-chunks (8 + n) (omega arith) k (p₄.1 ∙ ap (λ (j : ℕ). wave_in s (chunks_at s 12 0 j)) m)

  pub shown-whole : Ok w ≡ wave_of s → length (shown_by (wave_of s) s) ≡ w.len
  shown-whole e =
      let h = shown-within e in
      let k = length-drop w.offset s in
      sym (ap (λ (r : Result Wave WaveError). length (shown_by r s)) e) ∙ length-take-le w.len (drop w.offset s) (omega arith)

-- the file of RoundTrip is read
pub written-within : length (shown_by (wave_of written) written) ≡ 4
written-within = shown-whole written (record { sound = record { channels = 1; format = 5; rate = 1 }; offset = 44; len = 4 }) (sym written-reads-back)
