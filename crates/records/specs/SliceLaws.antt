-- The laws of a record in a slice, over any layout: for the code that reads and writes, for its callers, and the round trips.
-- Assumes nothing.
use Rattle.std.specs.Prelude.{◌≡◌, List, [], ◌++◌, ℕ, ◌+◌, ◌<◌, ◌≤◌, leb, length, take, drop}
use Rattle.std.proofs.Common.{sym, ap, ◌∙◌, arith, length-append, length-drop, take-append-drop, length-take-le, le-leb, leb-true, leb-false}
use Rattle.std.proofs.lemmas.Bool.{lt-leb}
use Rattle.layout.specs.Bytes.{Bytes}
use Rattle.layout.specs.Layout.{size, write, read_at, read, Fit}
use Rattle.layout.specs.BytesLaws.{bytes_at-part}
use Rattle.layout.specs.LayoutLaws.{length-write, read-write, write_read, read-part}
use Rattle.layout.specs.ChainLaws.{Got, Stored, got, stored-front}
use Rattle.codes.specs.Says.{says}
use Rattle.codes.specs.SaysLaws.{picks, skips, took}
use Rattle.codes.specs.Answers.{says_refusal}
use Rattle.codes.specs.RefusalLaws.{refusal-is}
use Rattle.codes.specs.declared.answers.Refusal.{Refusal}
use Rattle.codes.specs.declared.answers.Refusal.TheVariants.{BadLength}
use Rattle.records.specs.Slice.{read_says, write_says, written}

-- ---- a slice that is too short for the record, and one that is not

pub read_short : (ws s : List ℕ) → length s < size ws → read_says ws s ≡ says 10 []
read_short ws s h = skips _ _ _ (lt-leb (size ws) (length s) h)

pub read-long : (ws s : List ℕ) → size ws ≤ length s → read_says ws s ≡ says 0 (read ws s)
read-long ws s h = picks _ _ _ (le-leb (size ws) (length s) h)

pub write-short : (ws l : List ℕ) → length l < size ws → write_says ws l ≡ says 10 []
write-short ws l h = skips _ _ _ (lt-leb (size ws) (length l) h)

pub write-long : (ws l : List ℕ) → size ws ≤ length l → write_says ws l ≡ says 0 []
write-long ws l h = picks _ _ _ (le-leb (size ws) (length l) h)

pub written-short : (ws vs l : List ℕ) → length l < size ws → written ws vs l ≡ l
written-short ws vs l h = skips _ _ _ (lt-leb (size ws) (length l) h)

pub written-long : (ws vs l : List ℕ) → size ws ≤ length l → written ws vs l ≡ write ws vs ++ drop (size ws) l
written-long ws vs l h = picks _ _ _ (le-leb (size ws) (length l) h)

-- ---- for a reader and a writer: each return, from its test and its calls

pub reads : (ws vs s : List ℕ) → size ws ≤ length s → Got s 0 ws vs → says 0 vs ≡ read_says ws s
reads ws vs s h g = ap (says 0) (got s 0 ws vs g) ∙ sym (read-long ws s h)

pub stores : (ws vs n l : List ℕ) → size ws ≤ length l → Stored n l 0 ws vs → (says 0 [] ≡ write_says ws l) × (n ≡ written ws vs l)
stores ws vs n l h s = (sym (write-long ws l h), stored-front n l ws vs h s ∙ sym (written-long ws vs l h))

pub stores-none : (ws vs l : List ℕ) → length l < size ws → (says 10 [] ≡ write_says ws l) × (l ≡ written ws vs l)
stores-none ws vs l h = (sym (write-short ws l h), sym (written-short ws vs l h))

-- ---- for callers: from what was said to what held

pub read_is : (ws s vs : List ℕ) → says 0 vs ≡ read_says ws s → (size ws ≤ length s) × (vs ≡ read ws s)
read_is ws s vs e = let r = took (leb (size ws) (length s)) 9 (read ws s) vs e in (leb-true (size ws) (length s) r.0, r.1)

pub read-bad : (ws s : List ℕ) (r : Refusal) → says_refusal r ≡ read_says ws s → length s < size ws
read-bad ws s r e = leb-false (size ws) (length s) (refusal-is (leb (size ws) (length s)) (read ws s) r BadLength e).0

-- ---- a record in a part of a slice

-- in `&s[a..a + m]`
pub read-inside : (ws s : List ℕ) (a m : ℕ) → a + m ≤ length s → size ws ≤ m → read_says ws (take m (drop a s)) ≡ says 0 (read_at a ws s)
read-inside ws s a m h k =
    let n : length (take m (drop a s)) ≡ m = length-take-le m (drop a s) (simp length-drop (omega arith)) in
    read-long ws (take m (drop a s)) (rw n k) ∙ ap (says 0) (read-part m a ws s k)

-- ---- the round trips

-- what was written is read, whatever stood there and whatever follows
pub write-then-read : (ws vs l : List ℕ) → size ws ≤ length l → Fit ws vs → read_says ws (written ws vs l) ≡ says 0 vs
write-then-read ws vs l h f =
    let n : size ws ≤ length (write ws vs ++ drop (size ws) l) = omega (arith, length-append (write ws vs) (drop (size ws) l), length-write ws vs) in
    ap (read_says ws) (written-long ws vs l h)
    ∙ read-long ws (write ws vs ++ drop (size ws) l) n
    ∙ ap (says 0) (read-write ws vs (drop (size ws) l) f)

-- what was read, written again, leaves the bytes as they were
pub read-then-write : (ws s : List ℕ) → size ws ≤ length s → Bytes s → written ws (read ws s) s ≡ s
read-then-write ws s h b =
    written-long ws (read ws s) s h
    ∙ ap (λ (l : List ℕ). l ++ drop (size ws) s) (write_read 0 ws s b ∙ bytes_at-part 0 (size ws) s (omega arith))
    ∙ take-append-drop (size ws) s
