-- The standard's table, laid out by rows of five; and past its states and its commands nothing is permitted.
-- Assumes nothing.
use Rattle.std.specs.Prelude.{◌≡◌, refl, Bool, true, false, List, [], ◌∷◌, ℕ, zero, suc, ◌+◌, ◌*◌, ◌<◌, ◌≤◌, eqb, get_or}
use Rattle.std.proofs.Common.{ap, arith, ne_eqb}
use Rattle.std.proofs.Math.ListN.{get_or-eq_default}
use Rattle.codes.specs.Codes.{among}
use Rattle.codes.specs.Life.{life_table, permits_of}

abbrev pub permitted_table : List Bool
permitted_table =
    true ∷ true ∷ false ∷ false ∷ false
    ∷ true ∷ true ∷ true ∷ true ∷ false
    ∷ true ∷ true ∷ false ∷ false ∷ false
    ∷ false ∷ false ∷ false ∷ false ∷ true
    ∷ false ∷ false ∷ true ∷ true ∷ false
    ∷ []

below-5 : (P : ℕ → Type 0) → P 0 → P 1 → P 2 → P 3 → P 4 → (n : ℕ) → n < 5 → P n
below-5 P a b c d e zero h = a
below-5 P a b c d e (suc zero) h = b
below-5 P a b c d e (suc (suc zero)) h = c
below-5 P a b c d e (suc (suc (suc zero))) h = d
below-5 P a b c d e (suc (suc (suc (suc zero)))) h = e
below-5 P a b c d e (suc (suc (suc (suc (suc n))))) h = absurd (omega arith)

pub permitted : (life command : ℕ) → life < 5 → command < 5 → get_or permitted_table (life * 5 + command) false ≡ permits_of life command
unfolding permits_of
permitted life command h k =
    below-5 (λ (l : ℕ). get_or permitted_table (l * 5 + command) false ≡ among command (get_or life_table l []))
    (below-5 (λ (c : ℕ). get_or permitted_table (0 * 5 + c) false ≡ among c (get_or life_table 0 [])) refl refl refl refl refl command k)
    (below-5 (λ (c : ℕ). get_or permitted_table (1 * 5 + c) false ≡ among c (get_or life_table 1 [])) refl refl refl refl refl command k)
    (below-5 (λ (c : ℕ). get_or permitted_table (2 * 5 + c) false ≡ among c (get_or life_table 2 [])) refl refl refl refl refl command k)
    (below-5 (λ (c : ℕ). get_or permitted_table (3 * 5 + c) false ≡ among c (get_or life_table 3 [])) refl refl refl refl refl command k)
    (below-5 (λ (c : ℕ). get_or permitted_table (4 * 5 + c) false ≡ among c (get_or life_table 4 [])) refl refl refl refl refl command k)
    life h

pub no-state : (life command : ℕ) → 5 ≤ life → permits_of life command ≡ false
unfolding permits_of
no-state life command h = ap (among command) (get_or-eq_default life_table [] h)

pub no-command : (life command : ℕ) → life < 5 → 5 ≤ command → permits_of life command ≡ false
unfolding permits_of
no-command life command h k =
    let e0 : eqb command 0 ≡ false = ne_eqb command 0 (λ e. omega arith) in
    let e1 : eqb command 1 ≡ false = ne_eqb command 1 (λ e. omega arith) in
    let e2 : eqb command 2 ≡ false = ne_eqb command 2 (λ e. omega arith) in
    let e3 : eqb command 3 ≡ false = ne_eqb command 3 (λ e. omega arith) in
    let e4 : eqb command 4 ≡ false = ne_eqb command 4 (λ e. omega arith) in
    below-5 (λ (l : ℕ). among command (get_or life_table l []) ≡ false) (rw (e0, e1)) (rw (e0, e1, e2, e3)) (rw (e0, e1)) (rw e4) (rw (e2, e3)) life h
