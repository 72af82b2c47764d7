-- What is written is bytes, and a store of bytes stays one when bytes are stored in it.
-- Assumes nothing.
use Rattle.std.specs.Prelude.{◌≡◌, List, [], ◌∷◌, ◌++◌, ℕ, zero, suc, ◌<◌, length, set}
use Rattle.std.proofs.Common.{lit<}
use Rattle.std.proofs.lemmas.List.Edits.{sets}
use Rattle.std.proofs.Math.Seq.{length-sets}
use Rattle.layout.specs.Bytes.{le, Bytes}
use Rattle.layout.specs.Layout.{write}
use Rattle.layout.specs.Rows.{rows_bytes}
use Rattle.layout.specs.BytesLaws.{bytes_le}

bytes-none : Bytes []
bytes-none k = lit< tt

pub bytes-append : (a b : List ℕ) → Bytes a → Bytes b → Bytes (a ++ b)
bytes-append [] b p q k = q k
bytes-append (x ∷ a) b p q zero = p 0
bytes-append (x ∷ a) b p q (suc k) = bytes-append a b (λ j. p (suc j)) q k

-- a record, whatever its values
pub bytes-write : (ws vs : List ℕ) → Bytes (write ws vs)
bytes-write [] vs = bytes-none
bytes-write (w ∷ ws) [] = bytes-append (le w 0) (write ws []) (bytes_le w 0) (bytes-write ws [])
bytes-write (w ∷ ws) (v ∷ vs) = bytes-append (le w v) (write ws vs) (bytes_le w v) (bytes-write ws vs)

-- rows, where each is
pub bytes-rows : {A : Type 0} (g : A → List ℕ) → ((x : A) → Bytes (g x)) → (xs : List A) → Bytes (rows_bytes g xs)
unfolding rows_bytes
bytes-rows g p [] = bytes-none
bytes-rows g p (x ∷ xs) = bytes-append (g x) (rows_bytes g xs) (p x) (bytes-rows g p xs)

bytes-set : (l : List ℕ) (i v : ℕ) → Bytes l → v < 256 → Bytes (set l i v)
bytes-set [] i v b h k = b k
bytes-set (x ∷ l) zero v b h zero = h
bytes-set (x ∷ l) zero v b h (suc k) = b (suc k)
bytes-set (x ∷ l) (suc i) v b h zero = b 0
bytes-set (x ∷ l) (suc i) v b h (suc k) = bytes-set l i v (λ j. b (suc j)) h k

-- a store
pub bytes-sets : (vs l : List ℕ) (i : ℕ) → Bytes l → Bytes vs → Bytes (sets l i vs)
bytes-sets [] l i b p = b
bytes-sets (v ∷ vs) l i b p = bytes-sets vs (set l i v) (suc i) (bytes-set l i v b (p 0)) (λ k. p (suc k))

-- n is a store again: bytes, as many as s
abbrev pub Again : List ℕ → List ℕ → Type 0
Again s n = Bytes n × (length n ≡ length s)

pub over-again : (s vs : List ℕ) → Bytes s → Bytes vs → Again s (sets s 0 vs)
over-again s vs b p = (bytes-sets vs s 0 b p, length-sets s 0 vs)
