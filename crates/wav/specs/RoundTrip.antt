-- "Also write such a file .. from these three and frames; reading gives all back."
-- Assumes nothing.
use Rattle.std.specs.Prelude.{◌≡◌, true, ℕ, ◌+◌, ◌*◌, ◌-◌, ◌%◌, ◌/◌, ◌<◌, ◌≤◌, eqb, Result, Ok}
use Rattle.std.proofs.Math.Path.{refl, sym, ap}
use Rattle.std.proofs.Common.{◌∙◌, mul-le-mul, lit<, drop_at, eq-eqb, lt-ltb, le-leb}
use mathlib.Core.List.{List, [], ◌∷◌, ◌++◌, append_assoc}
use native.Mathlib.Omega.{arith}
use Rattle.std.proofs.Math.ListN.{length, get_or, take, drop, length-append}
use Rattle.std.proofs.Math.Seq.{take_at}
use Rattle.layout.specs.Bytes.{num_at, zeros}
use Rattle.layout.specs.Layout.{read, Fit}
use Rattle.layout.specs.LayoutLaws.{read-write}
use Rattle.codes.specs.Says.{pick, guard}
use Rattle.codes.specs.SaysLaws.{passes}
use Rattle.codes.specs.Codes.{among}
use Rattle.codes.specs.Formats.{storage_table}
use Rattle.codes.specs.Rates.{hz_table, place_of}
use Rattle.codes.specs.RatesLaws.{place-of-hz}
use Rattle.wav.specs.Chunks.{riff_tag, wave_tag, fmt_tag, data_tag, padded, ended, chunk, chunks_at}
use Rattle.wav.specs.ChunksLaws.{next}
use Rattle.wav.specs.Wave.{format_of_bits, block_of, sound_of, sound_at, wave_by, wave_at, wave_in, wave_of, shown_by, wave_formats, wrote_of, written_by, header, header_values, header_of, file_of}
use Rattle.wav.specs.WaveLaws.{small_product}
use Rattle.wav.specs.WriteLaws.{by_code, never, held-bits, hz-below, done, length-header, length-zeros}
use Rattle.wav.specs.Types.{Sound, Wave, WaveError, WriteError}

-- what reading is to say of a file of n bytes of frames
abbrev pub read_back : ℕ → ℕ → ℕ → ℕ → Result Wave WaveError
read_back c f r n = Ok (record { sound = record { channels = c; format = f; rate = r }; offset = 44; len = n })

-- ---- the sound

bits_back : (f : ℕ) → among f wave_formats ≡ true → format_of_bits (get_or storage_table f 0) ≡ f
bits_back f =
    by_code Back f 4 (5 ∷ 11 ∷ 17 ∷ []) refl
    (by_code Back f 5 (11 ∷ 17 ∷ []) refl (by_code Back f 11 (17 ∷ []) refl (by_code Back f 17 [] refl (λ e. absurd (never e)))))
  where
    Back : ℕ → Type 0
    Back k = format_of_bits (get_or storage_table k 0) ≡ k

below-25 : (f : ℕ) → among f wave_formats ≡ true → f < 25
below-25 f =
    by_code (λ (k : ℕ). k < 25) f 4 (5 ∷ 11 ∷ 17 ∷ []) (lit< tt)
    (by_code (λ (k : ℕ). k < 25) f 5 (11 ∷ 17 ∷ []) (lit< tt)
    (by_code (λ (k : ℕ). k < 25) f 11 (17 ∷ []) (lit< tt) (by_code (λ (k : ℕ). k < 25) f 17 [] (lit< tt) (λ e. absurd (never e)))))

sound_back : (c f r : ℕ) → among f wave_formats ≡ true → r < 14 → 0 < c → c < 256
    → Ok (record { channels = c; format = f; rate = r }) ≡ sound_of 1 c (get_or hz_table r 0) (block_of c f) (get_or storage_table f 0)
unfolding sound_of
sound_back c f r hf hr hc hc₁ =
    let b : format_of_bits (get_or storage_table f 0) ≡ f = bits_back f hf in
    let p : place_of (get_or hz_table r 0) hz_table ≡ r = place-of-hz r hr in
    passes _ _ _ refl
    (passes _ _ _ (lt-ltb (format_of_bits (get_or storage_table f 0)) 25 (rw b (below-25 f hf)))
    (passes _ _ _ (lt-ltb (place_of (get_or hz_table r 0) hz_table) 14 (rw p hr))
    (passes _ _ _ (lt-ltb 0 c hc)
    (passes _ _ _ (lt-ltb c 256 hc₁)
    (passes _ _ _ (eq-eqb (block_of c f) (block_of c (format_of_bits (get_or storage_table f 0))) (sym (ap (block_of c) b)))
    (λ i. Ok (record { channels = c; format = sym b i; rate = sym p i })))))))

-- ---- the header's numbers

abbrev values : ℕ → ℕ → ℕ → ℕ → List ℕ
values c f r n = header_values c (get_or hz_table r 0) (block_of c f) (get_or storage_table f 0) n

values-fit : (c f r n : ℕ) → among f wave_formats ≡ true → r < 14 → c < 256 → padded n ≤ 4294967259 → Fit header (values c f r n)
values-fit c f r n hf hr hc hn =
    let hz : get_or hz_table r 0 ≤ 384000 = hz-below r hr in
    let bits : get_or storage_table f 0 ≤ 32 = (held-bits f hf).1 in
    let bl : block_of c f ≤ 7905 = small_product c (get_or storage_table f 0 / 8) (omega arith) (omega arith) in
    let br : get_or hz_table r 0 * block_of c f ≤ 384000 * 7905 = mul-le-mul hz bl in
    let n₁ : 36 + padded n < 4294967296 = omega arith in
    let n₂ : n < 4294967296 = omega arith in
    let br₁ : get_or hz_table r 0 * block_of c f < 4294967296 = omega arith in
    let hz₁ : get_or hz_table r 0 < 4294967296 = omega arith in
    let c₁ : c < 65536 = omega arith in
    let bl₁ : block_of c f < 65536 = omega arith in
    let b₁ : get_or storage_table f 0 < 65536 = omega arith in
    (lit< tt, (n₁, (lit< tt, (lit< tt, (lit< tt, (lit< tt, (c₁, (hz₁, (br₁, (bl₁, (b₁, (lit< tt, (n₂, tt)))))))))))))

-- ---- a file that begins with such a header, and goes on for the padded frames at least

module _ (c f r n : ℕ) (t : List ℕ) (hf : among f wave_formats ≡ true) (hr : r < 14) (hc : 0 < c) (hc₁ : c < 256) (hn : padded n ≤ 4294967259) (ht : padded n ≤ length t) where
  abbrev file : List ℕ
  file = header_of c f r n ++ t

  all : read header file ≡ values c f r n
  unfolding header_of
  all = read-write header (values c f r n) t (values-fit c f r n hf hr hc₁ hn)

  at : (k : ℕ) → get_or (read header file) k 0 ≡ get_or (values c f r n) k 0
  at k = ap (λ (l : List ℕ). get_or l k 0) all

  length-all : length file ≡ 44 + length t
  length-all = length-append (header_of c f r n) t ∙ ap (λ (k : ℕ). k + length t) (length-header c f r n)

  chunks-back : chunks_at file 12 0 (num_at 4 4 file - 4) ≡ chunk 12 (chunk 36 ended)
  unfolding chunks_at
  chunks-back =
      let s : num_at 16 4 file ≡ 16 = at 4 in
      let d : num_at 40 4 file ≡ n = at 12 in
      let e₁ : 24 ≡ 8 + padded (num_at 16 4 file) = sym (ap (λ (k : ℕ). 8 + padded k) s) in
      let e₂ : 8 + padded n ≡ 8 + padded (num_at 40 4 file) = sym (ap (λ (k : ℕ). 8 + padded k) d) in
      let m₀ : num_at 4 4 file - 4 ≡ 32 + padded n = ap (λ (k : ℕ). k - 4) (at 1) ∙ omega arith in
      let m₁ : 32 + padded n - 24 ≡ 8 + padded n = omega arith in
      let m₂ : 8 + padded n - (8 + padded n) ≡ 0 = omega arith in
      ap (chunks_at file 12 0) m₀
      ∙ next file 12 (32 + padded n) 24 e₁ (omega arith)
      ∙ ap (chunk 12)
      (ap (λ (k : ℕ). chunks_at file 36 0 k) m₁
      ∙ next file 36 (8 + padded n) (8 + padded n) e₂ (omega arith)
      ∙ ap (λ (k : ℕ). chunk 36 (chunks_at file (36 + (8 + padded n)) 0 k)) m₂)

  place-back : read_back c f r n ≡ wave_at file 12 36
  unfolding wave_at
  place-back =
      let s : num_at 16 4 file ≡ 16 = at 4 in
      let s₁ : num_at 20 2 file ≡ 1 = at 5 in
      let s₂ : num_at 22 2 file ≡ c = at 6 in
      let s₃ : num_at 24 4 file ≡ get_or hz_table r 0 = at 7 in
      let s₄ : num_at 32 2 file ≡ block_of c f = at 9 in
      let s₅ : num_at 34 2 file ≡ get_or storage_table f 0 = at 10 in
      let d : num_at 40 4 file ≡ n = at 12 in
      let x : Ok (record { channels = c; format = f; rate = r }) ≡ sound_at file 20 =
      sound_back c f r hf hr hc hc₁ ∙ (λ i. sound_of (sym s₁ i) (sym s₂ i) (sym s₃ i) (sym s₄ i) (sym s₅ i)) in
      passes _ _ _ refl
      (passes _ _ _ refl
      (passes _ _ _ (le-leb 16 (num_at 16 4 file) (omega arith))
      ((λ i. Ok (record { sound = record { channels = c; format = f; rate = r }; offset = 44; len = sym d i })) ∙ ap (λ (y : Result Sound WaveError). wave_by y file 36) x)))

  in-back : read_back c f r n ≡ wave_in file (chunks_at file 12 0 (num_at 4 4 file - 4))
  in-back =
      let a : num_at 12 4 file ≡ fmt_tag = at 3 in
      let d : num_at 36 4 file ≡ data_tag = at 11 in
      let q : read_back c f r n ≡ wave_in file (chunk 12 (chunk 36 ended)) =
      passes _ _ _ refl
      (place-back
      ∙ (λ i. wave_at file (pick (eqb (sym a i) fmt_tag) 12 (pick (eqb (sym d i) fmt_tag) 36 0)) (pick (eqb (sym a i) data_tag) 12 (pick (eqb (sym d i) data_tag) 36 0)))) in
      q ∙ sym (ap (wave_in file) chunks-back)

  read_back_lem : read_back c f r n ≡ wave_of file
  unfolding wave_of
  read_back_lem =
      let e : num_at 4 4 file ≡ 36 + padded n = at 1 in
      let l = length-all in
      passes _ _ _ (eq-eqb (num_at 0 4 file) riff_tag (at 0))
      (passes _ _ _ (le-leb 4 (num_at 4 4 file) (omega arith))
      (passes _ _ _ (le-leb (8 + num_at 4 4 file) (length file) (omega arith)) (passes _ _ _ (eq-eqb (num_at 8 4 file) wave_tag (at 2)) in-back)))

-- THE ROUND TRIP: where the writer is done, reading what the lent slice then holds gives the three back, and shows the frames: these very bytes, from byte 44 on
module _ (c f r : ℕ) (frames l : List ℕ) (m : ℕ) (small : c < 256) (wrote : Ok m ≡ wrote_of c f r (length frames) (length l)) where
  abbrev left : List ℕ
  left = written_by (wrote_of c f r (length frames) (length l)) (file_of c f r frames) l

  tail : List ℕ
  tail = frames ++ zeros (length frames % 2) ++ drop m l

  left_is : left ≡ header_of c f r (length frames) ++ tail
  unfolding file_of tail
  left_is =
      let n = length frames in
      sym (ap (λ (w : Result ℕ WriteError). written_by w (file_of c f r frames) l) wrote)
      ∙ append_assoc (header_of c f r n) (frames ++ zeros (n % 2)) (drop m l)

  tail-long : padded (length frames) ≤ length tail
  unfolding tail
  tail-long =
      let n = length frames in
      let a = length-append (frames ++ zeros (n % 2)) (drop m l) in
      let b = length-append frames (zeros (n % 2)) in
      let z = length-zeros (n % 2) in
      omega arith

  pub reads-back : wave_of left ≡ read_back c f r (length frames)
  reads-back =
      let w = (done c f r (length frames) (length l) m wrote).1 in
      ap wave_of left_is ∙ sym (read_back_lem c f r (length frames) tail w.format w.rate w.channels small w.small tail-long)

  pub shows-back : shown_by (wave_of left) left ≡ frames
  unfolding tail
  shows-back =
      let n = length frames in
      let h = header_of c f r n in
      let z = zeros (n % 2) ++ drop m l in
      ap (λ (x : Result Wave WaveError). shown_by x left) reads-back
      ∙ ap (λ (s : List ℕ). take n (drop 44 s)) left_is
      ∙ ap (take n) (drop_at h tail 44 (length-header c f r n))
      ∙ ap (take n) (append_assoc frames (zeros (n % 2)) (drop m l))
      ∙ take_at frames z n refl

-- ---- such a file: two samples of 16 bits, one channel, 8,000 Hz, into 50 bytes, two of which stay behind it

abbrev pub samples : List ℕ
samples = 1 ∷ 2 ∷ 3 ∷ 4 ∷ []

abbrev pub fifty : List ℕ
fifty = zeros 50

abbrev pub written : List ℕ
written = written_by (wrote_of 1 5 1 4 50) (file_of 1 5 1 samples) fifty

pub is-written : Ok 48 ≡ wrote_of 1 5 1 4 50
unfolding wrote_of guard
is-written = refl

pub written-reads-back : wave_of written ≡ read_back 1 5 1 4
unfolding zeros
written-reads-back = reads-back 1 5 1 samples fifty 48 (lit< tt) is-written
