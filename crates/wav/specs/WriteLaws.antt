-- The laws of writing: which sounds are taken, and that the parts stored one after the other are the file.
-- Assumes nothing.
use Rattle.std.specs.Prelude.{◌≡◌, refl, Bool, true, false, List, [], ◌∷◌, ◌++◌, ℕ, ◌+◌, ◌*◌, ◌/◌, ◌%◌, ◌<◌, ◌≤◌, leb, ltb, eqb, length, get_or, drop, Result, Ok, Err}
use Rattle.std.proofs.Common.{sym, ap, ap₂, subst, ◌∙◌, append_assoc, mul-pos, mul-le-mul, zero-add, arith, lit<, lit≤, length-append, eqb-true, leb-true, ltb-true}
use Rattle.std.proofs.lemmas.List.{length-replicate}
use Rattle.std.proofs.lemmas.List.Edits.{sets, sets-eq}
use Rattle.layout.specs.Bytes.{zeros}
use Rattle.layout.specs.LayoutLaws.{length-write}
use Rattle.layout.specs.StoreLaws.{sets_then}
use Rattle.codes.specs.Says.{says, pick, guard}
use Rattle.codes.specs.SaysLaws.{skips, took}
use Rattle.codes.specs.Answers.{says_refusal}
use Rattle.codes.specs.RefusalLaws.{refusal-is}
use Rattle.codes.specs.declared.answers.Refusal.{Refusal}
use Rattle.codes.specs.declared.answers.Refusal.TheVariants.{InvalidParam}
use Rattle.codes.specs.Codes.{among, code_says}
use Rattle.codes.specs.TableLaws.{rule}
use Rattle.codes.specs.RatesLaws.{rate-below}
use Rattle.codes.specs.Formats.{storage_table}
use Rattle.codes.specs.Rates.{hz_table, rate_number, hz_of}
use Rattle.codes.specs.declared.rates.PcmRate.{PcmRate}
use Rattle.wav.specs.Chunks.{padded}
use Rattle.wav.specs.WaveLaws.{opened}
use Rattle.wav.specs.Wave.{wave_formats, block_of, wrote_of, header, header_values, header_of, file_of}
use Rattle.wav.specs.Types.{WriteError, BadLength}
use Rattle.wav.specs.declared.writer.WriteError.TheVariants.{BadSound}

-- ---- one of the four formats

-- what holds of each of the codes holds of one that is among them
pub by_code : (P : ℕ → Type 0) (k c : ℕ) (cs : List ℕ) → P c → (among k cs ≡ true → P k) → among k (c ∷ cs) ≡ true → P k
by_code P k c cs p rest e = of (eqb k c) refl
  where
    of : (t : Bool) → eqb k c ≡ t → P k
    of true q = subst P (sym (eqb-true k c q)) p
    of false q = rest (sym (skips (eqb k c) true (among k cs) q) ∙ e)

pub never : ◌≡◌ {A = Bool} false true → ⊥
never e = let z : ◌≡◌ {A = ℕ} 0 1 = ap (λ (t : Bool). pick t 1 0) e in omega arith

abbrev pub Whole : ℕ → Type 0
Whole k = (0 < get_or storage_table k 0 / 8) × (get_or storage_table k 0 ≤ 32)

pub held-bits : (k : ℕ) → among k wave_formats ≡ true → Whole k
held-bits k =
    by_code Whole k 4 (5 ∷ 11 ∷ 17 ∷ []) (lit< tt, lit≤ tt)
    (by_code Whole k 5 (11 ∷ 17 ∷ []) (lit< tt, lit≤ tt) (by_code Whole k 11 (17 ∷ []) (lit< tt, lit≤ tt) (by_code Whole k 17 [] (lit< tt, lit≤ tt) (λ e. absurd (never e)))))

-- what a search for one of the four came to
pub is_held : (n v : ℕ) → says 0 (v ∷ []) ≡ code_says wave_formats 1 n → (among n wave_formats ≡ true) × (v ≡ n)
is_held n v e = let t = took (among n wave_formats) 0 (n ∷ []) (v ∷ []) e in (t.0, ap (λ (l : List ℕ). get_or l 0 0) t.1)

pub not-held : (n : ℕ) (r : Refusal) → says_refusal r ≡ code_says wave_formats 1 n → among n wave_formats ≡ false
not-held n r e = (refusal-is (among n wave_formats) (n ∷ []) r InvalidParam e).0

-- no code from 25 on is one of them
pub none_above : (k : ℕ) → 25 ≤ k → among k wave_formats ≡ false
none_above k h = of (among k wave_formats) refl
  where
    below : among k wave_formats ≡ true → k < 25
    below = by_code (λ i. i < 25) k 4 (5 ∷ 11 ∷ 17 ∷ []) (lit< tt)
        (by_code (λ i. i < 25) k 5 (11 ∷ 17 ∷ []) (lit< tt)
        (by_code (λ i. i < 25) k 11 (17 ∷ []) (lit< tt) (by_code (λ i. i < 25) k 17 [] (lit< tt) (λ e. absurd (never e)))))

    of : (t : Bool) → among k wave_formats ≡ t → t ≡ false
    of true e = absurd (omega (arith, h, below e))
    of false e = refl

pub some_block : (channels k : ℕ) → among k wave_formats ≡ true → 0 < channels → 0 < block_of channels k
some_block channels k e h = mul-pos h (held-bits k e).0

-- ---- the byte rate fits

pub hz-below : (r : ℕ) → r < 14 → get_or hz_table r 0 ≤ 384000
hz-below r h = leb-true (get_or hz_table r 0) 384000 (rule (λ (_ hz : ℕ). leb hz 384000) hz_table refl r h)

pub byte-rate : (r : PcmRate) (hz b : ℕ) → hz ≡ hz_of r → b ≤ 7905 → hz * b ≤ 4294967295
byte-rate r hz b e h =
    let m = hz-below (rate_number r) (rate-below r) in
    let q : hz ≤ 384000 = omega arith in
    let p : hz * b ≤ 384000 * 7905 = mul-le-mul q h in
    omega arith

-- ---- a test before another, both of which refuse alike

pub refuses-all-the-same : (t : Bool) (x : Result ℕ WriteError) → Err BadSound ≡ x → Err BadSound ≡ guard t (Err BadSound) x
unfolding guard
refuses-all-the-same true x e = e
refuses-all-the-same false x e = refl

-- ---- a file that is written: what was tested

pub record Fits (c f r n room : ℕ) : Type 0 where
  pub format : among f wave_formats ≡ true
  pub rate : r < 14
  pub channels : 0 < c
  pub whole : n % block_of c f ≡ 0
  pub small : padded n ≤ 4294967259
  pub enough : 44 + padded n ≤ room

pub done : (c f r n room m : ℕ) → Ok m ≡ wrote_of c f r n room → (m ≡ 44 + padded n) × Fits c f r n room
unfolding wrote_of
done c f r n room m e =
    let no₁ : ◌≡◌ {A = Result ℕ WriteError} (Ok m) (Err BadSound) → ⊥ = λ q. (let z : ◌≡◌ {A = ℕ} 0 1 = cc in omega arith) in
    let no₂ : ◌≡◌ {A = Result ℕ WriteError} (Ok m) (Err BadLength) → ⊥ = λ q. (let z : ◌≡◌ {A = ℕ} 0 1 = cc in omega arith) in
    let t₆ = guard (leb (44 + padded n) room) (Err BadLength) (Ok (44 + padded n)) in
    let t₅ = guard (leb (padded n) 4294967259) (Err BadSound) t₆ in
    let t₄ = guard (eqb (n % block_of c f) 0) (Err BadSound) t₅ in
    let t₃ = guard (ltb 0 c) (Err BadSound) t₄ in
    let t₂ = guard (ltb r 14) (Err BadSound) t₃ in
    let p₁ = opened (among f wave_formats) (Err BadSound) t₂ (Ok m) e no₁ in
    let p₂ = opened (ltb r 14) (Err BadSound) t₃ (Ok m) p₁.1 no₁ in
    let p₃ = opened (ltb 0 c) (Err BadSound) t₄ (Ok m) p₂.1 no₁ in
    let p₄ = opened (eqb (n % block_of c f) 0) (Err BadSound) t₅ (Ok m) p₃.1 no₁ in
    let p₅ = opened (leb (padded n) 4294967259) (Err BadSound) t₆ (Ok m) p₄.1 no₁ in
    let p₆ = opened (leb (44 + padded n) room) (Err BadLength) (Ok (44 + padded n)) (Ok m) p₅.1 no₂ in
    let x : m ≡ 44 + padded n = cc p₆.1 in (
      x,
      record {
        format = p₁.0;
        rate = ltb-true r 14 p₂.0;
        channels = ltb-true 0 c p₃.0;
        whole = eqb-true (n % block_of c f) 0 p₄.0;
        small = leb-true (padded n) 4294967259 p₅.0;
        enough = leb-true (44 + padded n) room p₆.0;
      },
    )

-- ---- the parts, one after the other

pub length-header : (c f r n : ℕ) → length (header_of c f r n) ≡ 44
unfolding header_of
length-header c f r n = length-write header (header_values c (get_or hz_table r 0) (block_of c f) (get_or storage_table f 0) n)

pub length-zeros : (n : ℕ) → length (zeros n) ≡ n
unfolding zeros
length-zeros n = length-replicate n 0

pub length-file : (c f r : ℕ) (frames : List ℕ) → length (file_of c f r frames) ≡ 44 + padded (length frames)
unfolding file_of
length-file c f r frames =
    let n = length frames in
    length-append (header_of c f r n) (frames ++ zeros (n % 2))
    ∙ ap₂ (λ (x y : ℕ). x + y) (length-header c f r n) (length-append frames (zeros (n % 2)) ∙ ap (λ (x : ℕ). n + x) (length-zeros (n % 2)))

pub file-stored : (l m₁ m₂ m₃ frames : List ℕ) (c f r : ℕ) → 44 + padded (length frames) ≤ length l → m₁ ≡ sets l 0 (header_of c f r (length frames)) → m₂ ≡ sets m₁ 44 frames
    → m₃ ≡ sets m₂ (44 + length frames) (zeros (length frames % 2)) → m₃ ≡ file_of c f r frames ++ drop (44 + padded (length frames)) l
unfolding file_of
file-stored l m₁ m₂ m₃ frames c f r room e₁ e₂ e₃ =
    let n = length frames in
    let h = header_of c f r n in
    let z = zeros (n % 2) in
    let lh = length-header c f r n in
    let lf = length-file c f r frames in
    let lhf : length (h ++ frames) ≡ 44 + n = length-append h frames ∙ ap (λ (x : ℕ). x + n) lh in
    e₃
    ∙ ap (λ (k : List ℕ). sets k (44 + n) z) (e₂ ∙ ap (λ (k : List ℕ). sets k 44 frames) e₁ ∙ sets_then l 0 44 h frames (omega arith))
    ∙ sets_then l 0 (44 + n) (h ++ frames) z (omega arith)
    ∙ ap (sets l 0) (append_assoc h frames z)
    ∙ sets-eq (file_of c f r frames) l 0 (omega arith)
    ∙ ap (λ (k : ℕ). file_of c f r frames ++ drop k l) (zero-add (length (file_of c f r frames)) ∙ lf)
