-- A list of streams as bytes: the ids from byte 4 on, one by one, and their count before them.
-- Assumes nothing.
use Rattle.std.specs.Prelude.{◌≡◌, ℕ, ◌+◌, ◌-◌, ◌*◌, ◌<◌, ◌≤◌, Bool, true, false, List, [], ◌∷◌, ◌++◌, length, take, replicate, ◌==◌, slice_index_or, refl}
use Rattle.std.proofs.Common.{sym, ap, ◌∙◌, arith, length-append, length-take-le}
use Rattle.std.proofs.lemmas.List.Edits.{sets}
use Rattle.std.proofs.Math.Seq.{take-append_seam}
use Rattle.layout.specs.Bytes.{le}
use Rattle.layout.specs.Rows.{rows_bytes}
use Rattle.layout.specs.BytesLaws.{length-le}
use Rattle.layout.specs.StoreLaws.{sets_then, sets-swap}
use Rattle.layout.specs.RowsLaws.{length-rows, length-rows_bytes, rows_bytes-append, rows_bytes-one}
use Rattle.codes.specs.Says.{pick}
use Rattle.records.specs.Records.{pcm_info_of}
use Rattle.tables.specs.Tables.{pcm_at, pcms_place, pcms_in}
use Rattle.exchange.specs.Exchange.{ids_from, listed}
use Rattle.exchange.specs.ListLaws.{listed-push, listed_more, length_ids, take-cap}
use Rattle.exchange.specs.Steps.{pushed}
use Rattle.state_store.specs.Types.{StreamList}
use Rattle.sound_core.specs.declared.plan.Value.TheVariants.{Streams}
use Rattle.state_store.specs.Calls.{value_bytes}
use Rattle.state_store.specs.Steps.{ids_in, Listed}

-- ---- the array of ids with its count is the ids

abbrev unlist : StreamList → List ℕ
unlist l = take l.count l.ids

unlisted : (ids : List ℕ) → unlist (listed ids) ≡ ids
unlisted ids = take-append_seam ids (replicate (127 - length ids) 0)

listed-bytes : (d : ℕ) (ids : List ℕ) → value_bytes (Streams d) (listed ids) ≡ le 4 (length ids) ++ rows_bytes (le 4) ids
listed-bytes d ids = ap (λ (l : List ℕ). le 4 (length ids) ++ rows_bytes (le 4) l) (unlisted ids)

-- ---- the ids of a direction among the first n streams of the tables

pcms-long : (s : List ℕ) → length (pcms_in s) ≡ 127
pcms-long s = length-rows pcm_at 32 pcms_place 127 s

pub ids_short : (s : List ℕ) (d n : ℕ) → n ≤ 127 → length (ids_in s d n) ≤ n
ids_short s d n h = omega (arith, length_ids d 0 (take n (pcms_in s)), length-take-le n (pcms_in s) (omega (arith, pcms-long s)))

-- stream i is looked at: its id is the next, where it has the direction
ids_more : (s : List ℕ) (d i : ℕ) → i < 127 → ids_in s d (i + 1) ≡ pick ((slice_index_or (pcms_in s) i (pcm_info_of [])).direction == d) (ids_in s d i ++ (i ∷ [])) (ids_in s d i)
ids_more s d i h = by ((slice_index_or (pcms_in s) i (pcm_info_of [])).direction == d) (listed_more d i (pcms_in s) _ (omega (arith, pcms-long s)) h)
  where
    by : (t : Bool) → pick t (pushed (listed (ids_in s d i)) i) (listed (ids_in s d i)) ≡ listed (ids_in s d (i + 1)) → ids_in s d (i + 1) ≡ pick t (ids_in s d i ++ (i ∷ [])) (ids_in s d i)
    by true e =
        sym (unlisted (ids_in s d (i + 1)))
        ∙ ap unlist (sym e ∙ listed-push (ids_in s d i) i (omega (arith, ids_short s d i (omega arith))))
        ∙ unlisted (ids_in s d i ++ (i ∷ []))
    by false e = sym (unlisted (ids_in s d (i + 1))) ∙ ap unlist (sym e) ∙ unlisted (ids_in s d i)

-- more than 127 streams are 127
pub ids_all : (s : List ℕ) (d n : ℕ) → 127 < n → ids_in s d 127 ≡ ids_in s d n
ids_all s d n h = ap (ids_from d 0) (take-cap n (pcms_in s) (pcms-long s) h)

-- ---- the ids in a result r: so many of them, from byte 4 on

pub none-listed : (s r : List ℕ) (d : ℕ) → Listed r (ids_in s d 0) 0 r
unfolding rows_bytes
none-listed s r d = record { counted = refl; stored = refl }

one_more : (r ids r₁ r₂ : List ℕ) (i count₁ count₂ : ℕ) (t : Bool) → Listed r ids count₁ r₁
    → count₂ ≡ pick t (count₁ + 1) count₁ → r₂ ≡ pick t (sets r₁ (4 + count₁ * 4) (le 4 i)) r₁ → Listed r (pick t (ids ++ (i ∷ [])) ids) count₂ r₂
one_more r ids r₁ r₂ i count₁ count₂ true l p q =
    record {
      counted = p ∙ ap (λ (n : ℕ). n + 1) l.counted ∙ sym (length-append ids (i ∷ []));
      stored =
          q
          ∙ (λ k. sets (l.stored k) (4 + l.counted k * 4) (le 4 i))
          ∙ sets_then r 4 (4 + length ids * 4) (rows_bytes (le 4) ids) (le 4 i) (ap (λ (n : ℕ). 4 + n) (sym (length-rows_bytes (le 4) 4 (length-le 4) ids)))
          ∙ ap (sets r 4) (sym (rows_bytes-append (le 4) ids (i ∷ []) ∙ ap (λ (k : List ℕ). rows_bytes (le 4) ids ++ k) (rows_bytes-one (le 4) i)));
    }
one_more r ids r₁ r₂ i count₁ count₂ false l p q = record { counted = p ∙ l.counted; stored = q ∙ l.stored }

-- a turn of the loop
pub turn-listed : (s r : List ℕ) (d i count₁ count₂ : ℕ) (r₁ r₂ : List ℕ) (t : Bool) → i < 127 → t ≡ ((slice_index_or (pcms_in s) i (pcm_info_of [])).direction == d)
    → Listed r (ids_in s d i) count₁ r₁ → count₂ ≡ pick t (count₁ + 1) count₁ → r₂ ≡ pick t (sets r₁ (4 + count₁ * 4) (le 4 i)) r₁ → Listed r (ids_in s d (i + 1)) count₂ r₂
turn-listed s r d i count₁ count₂ r₁ r₂ t h e l p q = rw (ids_more s d i h, ← e) (one_more r (ids_in s d i) r₁ r₂ i count₁ count₂ t l p q)

-- the count, stored last
pub count-listed : (r ids r₁ r₂ : List ℕ) (count d : ℕ) → Listed r ids count r₁ → r₂ ≡ sets r₁ 0 (le 4 count) → r₂ ≡ sets r 0 (value_bytes (Streams d) (listed ids))
count-listed r ids r₁ r₂ count d l e =
    let w = le 4 (length ids) in
    let v = rows_bytes (le 4) ids in
    e
    ∙ (λ k. sets (l.stored k) 0 (le 4 (l.counted k)))
    ∙ sets-swap r 4 0 v w (omega (arith, length-le 4 (length ids)))
    ∙ sets_then r 0 4 w v (sym (ap (λ (n : ℕ). 0 + n) (length-le 4 (length ids))))
    ∙ ap (sets r 0) (sym (listed-bytes d ids))
