-- 2026-12, two traces compared: `compared_of` says it, and `listed_by` is the room afterwards (Listed.antt); the differences themselves stand in Compare.antt.
-- Assumes nothing.
use Rattle.std.specs.Prelude.{List, ◌≡◌, ℕ, ◌*◌, ◌<◌, length, Result, Ok, Err}
use Rattle.std.proofs.Common.{ap}
use Rattle.layout.specs.Bytes.{Bytes}
use Rattle.layout.specs.Rows.{rows_at}
use Rattle.trace.specs.Field.{trace_bytes}
use Rattle.trace.specs.Fields.{scan_of}
use Rattle.trace.specs.Compare.{fields_in, diffs_of, applied_from}
use Rattle.trace.specs.Listed.{row_at, compared_of, listed_by, listed_of}
use Rattle.trace.specs.DifferLaws.{zero-equal, equal-zero, full-exactly, full-only}
use Rattle.trace.specs.RoomLaws.{list-told, list-applied}
use Rattle.trace.specs.Types.{CompareError, ListFull}

module _ (a b l : List ℕ) where
  -- "An empty list exactly when the bytes are equal"
  pub empty-if-equal : scan_of a ≡ Ok tt → a ≡ b → compared_of a b (length l) ≡ Ok 0
  empty-if-equal well e = equal-zero a b (length l) well e

  pub equal-if-empty : Bytes a → Bytes b → compared_of a b (length l) ≡ Ok 0 → a ≡ b
  equal-if-empty pa pb e = zero-equal a b (length l) pa pb e

  -- "20 ListFull exactly when the differences outnumber the room lent, leaving it unchanged"
  pub full-if-more : scan_of a ≡ Ok tt → scan_of b ≡ Ok tt → length l < length (diffs_of a b) * 34 → compared_of a b (length l) ≡ Err ListFull
  full-if-more wa wb h = full-exactly a b (length l) wa wb h

  pub more-if-full : compared_of a b (length l) ≡ Err ListFull → length l < length (diffs_of a b) * 34
  more-if-full e = full-only a b (length l) e

  pub full-unchanged : compared_of a b (length l) ≡ Err ListFull → listed_of a b l ≡ l
  full-unchanged e = ap (λ (c : Result ℕ CompareError). listed_by c (diffs_of a b) l) e

  -- a slice is shorter than 2^64 bytes
  module _ (pa : Bytes a) (pb : Bytes b) (la : length a < 18446744073709551616) (lb : length b < 18446744073709551616) where
    -- "lists every difference in order": the rows of the room, read back
    pub rows-are-differences : (n : ℕ) → compared_of a b (length l) ≡ Ok n → rows_at row_at 34 0 n (listed_of a b l) ≡ diffs_of a b
    rows-are-differences n e = list-told a b l pa pb la lb n e

    -- "applying the list to the first gives the second"
    pub applied-to-first : (n : ℕ) → compared_of a b (length l) ≡ Ok n
        → trace_bytes (applied_from 0 (rows_at row_at 34 0 n (listed_of a b l)) (fields_in a)) ≡ b
    applied-to-first n e = list-applied a b l pa pb la lb n e
