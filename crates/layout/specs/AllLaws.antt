-- What holds of every record of a table, and of those that are set, or read from bytes.
-- Assumes nothing.
use Rattle.std.specs.Prelude.{List, [], ◌∷◌, ◌++◌, set, replicate}
use Prim.Native.Nat.{ℕ, zero, suc, ◌+◌}
use Rattle.layout.specs.All.{All}
use Rattle.layout.specs.Bytes.{Bytes}
use Rattle.layout.specs.Rows.{rows_at}

module _ {A : Type 0} (Ok : A → Type 0) where
  pub append-ok : (xs ys : List A) → All Ok xs → All Ok ys → All Ok (xs ++ ys)
  append-ok [] ys p q = q
  append-ok (x ∷ xs) ys p q = (p.0, append-ok xs ys p.1 q)

  pub set-ok : (xs : List A) (i : ℕ) (y : A) → All Ok xs → Ok y → All Ok (set xs i y)
  set-ok [] i y p q = tt
  set-ok (x ∷ xs) zero y p q = (q, p.1)
  set-ok (x ∷ xs) (suc i) y p q = (p.0, set-ok xs i y p.1 q)

  pub replicate-ok : (n : ℕ) (y : A) → Ok y → All Ok (replicate n y)
  replicate-ok zero y q = tt
  replicate-ok (suc n) y q = (q, replicate-ok n y q)

  pub rows_ok : (f : ℕ → List ℕ → A) (size : ℕ) → ((o : ℕ) (s : List ℕ) → Bytes s → Ok (f o s)) → (o n : ℕ) (s : List ℕ) → Bytes s → All Ok (rows_at f size o n s)
  unfolding rows_at
  rows_ok f size reads o zero s b = tt
  rows_ok f size reads o (suc n) s b = (reads o s b, rows_ok f size reads (o + size) n s b)
