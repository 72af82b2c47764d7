-- A new state is its core and 14,639 bytes of 0; and the laws for the reads of the configured counts.
-- Assumes nothing.
use Rattle.std.specs.Prelude.{◌≡◌, ℕ, zero, suc, ◌+◌, ◌*◌, ◌<◌, ◌≤◌, Bool, true, false, List, [], ◌∷◌, ◌++◌, length, take, drop, replicate, slice_set}
use Rattle.std.proofs.Math.Path.{refl, sym, ap}
use Rattle.std.proofs.Common.{◌∙◌, zero-add, suc-add, suc-mul, zero-mul, add_comm, le-leb, arith, length-drop, length-take-le, drop-drop}
use Rattle.std.proofs.lemmas.List.Edits.{sets-eq}
use mathlib.Core.List.{append_assoc}
use borrow.Rule.Slice.PartMut.{mid_of, put_mid}
use Rattle.std.proofs.Math.Seq.{sets}
use Rattle.std.proofs.lemmas.Bool.{lt-leb}
use Rattle.layout.specs.Bytes.{le, zeros}
use Rattle.layout.specs.Rows.{rows_bytes}
use Rattle.layout.specs.StoreLaws.{sets_then}
use Rattle.codes.specs.SaysLaws.{passes, stops}
use Rattle.tables.specs.Tables.{tables_bytes}
use Rattle.pending.specs.Table.{free_token}
use Rattle.sound_core.specs.State.{unset, new_core}
use Rattle.state_store.specs.Types.{Counts, Core}
use Rattle.state_store.specs.Places.{head_size, state_size, tables_size}
use Rattle.state_store.specs.Store.{params_bytes, life_bytes, token_bytes, head_at, core_of, sound_bytes}
use Rattle.layout.specs.Lent.{made, shown}
use Rattle.state_store.specs.Calls.{lengths, new_in, count_in}
use Rattle.state_store.specs.OverLaws.{head_bytes, head-sized}
use Rattle.state_store.specs.StoreLaws.{core_at}
use Rattle.state_store.specs.Steps.{count_by}

length-zeros : (n : ℕ) → length (zeros n) ≡ n
unfolding zeros
length-zeros zero = refl
length-zeros (suc n) = ap suc (length-zeros n)

zeros-add : (a b : ℕ) → zeros a ++ zeros b ≡ zeros (a + b)
unfolding zeros
zeros-add zero b = ap zeros (sym (zero-add b))
zeros-add (suc a) b = ap (λ (l : List ℕ). 0 ∷ l) (zeros-add a b) ∙ ap zeros (sym (suc-add a b))

-- a turn of the loop that clears
pub zeros-more : (s : List ℕ) (o n : ℕ) (l : List ℕ) → l ≡ sets s o (zeros n) → slice_set l (o + n) 0 ≡ sets s o (zeros (n + 1))
unfolding zeros
zeros-more s o n l e =
    ap (λ (k : List ℕ). sets k (o + n) (0 ∷ [])) e
    ∙ sets_then s o (o + n) (zeros n) (0 ∷ []) (ap (λ (k : ℕ). o + k) (sym (length-zeros n)))
    ∙ ap (sets s o) (zeros-add n 1)

pub zeros-none : (s : List ℕ) (o : ℕ) → s ≡ sets s o (zeros 0)
unfolding zeros
zeros-none s o = refl

-- all that stands behind the head, filled with 0
pub cleared : (s ys : List ℕ) → state_size ≤ length s → ys ≡ replicate (length (mid_of head_size tables_size s)) 0 → put_mid head_size tables_size s ys ≡ sets s head_size (zeros tables_size)
unfolding zeros
cleared s ys h e =
    let m : length (mid_of head_size tables_size s) ≡ tables_size = length-take-le tables_size (drop head_size s) (omega (arith, length-drop head_size s)) in
    let n : length (zeros tables_size) ≡ tables_size = length-zeros tables_size in
    (λ i. take head_size s ++ ((e ∙ ap zeros m) i ++ (drop-drop tables_size head_size s ∙ ap (λ (k : ℕ). drop (head_size + k) s) (sym n)) i))
    ∙ sym (append_assoc (take head_size s) (zeros tables_size) _)
    ∙ sym (sets-eq (zeros tables_size) s head_size (omega (arith, h, n)))

-- rows of a record of zeros
rows-zero : {A : Type 0} (g : A → List ℕ) (size : ℕ) (z : A) → g z ≡ zeros size → (n : ℕ) → rows_bytes g (replicate n z) ≡ zeros (n * size)
unfolding rows_bytes zeros
rows-zero g size z e zero = ap zeros (sym (zero-mul size))
rows-zero g size z e (suc n) =
    (λ i. e i ++ rows-zero g size z e n i)
    ∙ zeros-add size (n * size)
    ∙ ap zeros (add_comm size (n * size) ∙ sym (suc-mul n size))

no-params : params_bytes unset ≡ zeros 16
unfolding le zeros
no-params = refl

no-life : life_bytes 0 ≡ zeros 1
unfolding le zeros
no-life = refl

no-token : token_bytes free_token ≡ zeros 8
unfolding le zeros
no-token = refl

no-tables : replicate tables_bytes 0 ++ (rows_bytes params_bytes (replicate 127 unset) ++ (rows_bytes life_bytes (replicate 127 0) ++ rows_bytes token_bytes (replicate 32 free_token))) ≡ zeros tables_size
unfolding zeros
no-tables =
    (λ i. zeros tables_bytes ++ (rows-zero params_bytes 16 unset no-params 127 i ++ (rows-zero life_bytes 1 0 no-life 127 i ++ rows-zero token_bytes 8 free_token no-token 32 i)))
    ∙ ap (λ (l : List ℕ). zeros tables_bytes ++ (zeros 2032 ++ l)) (zeros-add 127 256)
    ∙ ap (λ (l : List ℕ). zeros tables_bytes ++ l) (zeros-add 2032 383)
    ∙ zeros-add tables_bytes 2415

module _ (on : Bool) (s : List ℕ) (jacks streams maps : ℕ) where
  pub new-short : length s < state_size → made 10 s ≡ new_in on s jacks streams maps
  new-short h = stops _ _ _ (lt-leb state_size (length s) h) refl

  pub new-made : {l m : List ℕ} → state_size ≤ length s → l ≡ sets s 0 (head_bytes (new_core on jacks streams maps)) → m ≡ sets l head_size (zeros tables_size) → made 0 m ≡ new_in on s jacks streams maps
  unfolding sound_bytes
  new-made h e f =
      let b = head_bytes (new_core on jacks streams maps) in
      passes _ _ _ (le-leb state_size (length s) h)
      (ap (made 0)
      (f
      ∙ ap (λ (l : List ℕ). sets l head_size (zeros tables_size)) e
      ∙ sets_then s 0 head_size b (zeros tables_size) (sym (zero-add (length b) ∙ head-sized (new_core on jacks streams maps)))
      ∙ ap (λ (l : List ℕ). sets s 0 (b ++ l)) (sym no-tables)))

-- ---- the configured counts

module _ (s r : List ℕ) (count : Counts → ℕ) where
  pub count-unread : lengths s r ≡ false → shown 10 r ≡ count_in s count r
  unfolding count_in
  count-unread e = stops _ _ _ e refl

  pub counted : {c : Core} → lengths s r ≡ true → c ≡ core_of (head_at s) → count_by c (count c.counts) r ≡ count_in s count r
  unfolding count_in
  counted l e = passes _ _ _ l (ap (λ (z : Core). count_by z (count z.counts) r) (e ∙ sym (core_at s)))
