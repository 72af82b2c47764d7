-- What the slots of a ring carry after a loop of turns: what went out last at each of them.
-- Assumes nothing.
use Rattle.std.specs.Prelude.{ℕ, zero, suc, ◌+◌, ◌%◌, ◌≤◌, ◌<◌, ◌≡◌, refl, ◌≢◌, List, [], ◌∷◌, length, get_or, Some, None}
use Rattle.std.proofs.Common.{arith, ap, sym, ◌∙◌, length-set, get_or-set_same, get_or-set_other}
use Rattle.turns.specs.Ring.{blank_slot}
use Rattle.turns.specs.Calls.{carry}
use Rattle.turns.specs.CaseLaws.{onward-cases}
use Rattle.turns.specs.Log.{Line, Ran, onward, first_of, rest_of, loop_of, called, turn_by_turn, sends_more, sends}
use Rattle.turns.specs.Types.{Slot, Ring, Sent, Said, Reading, sent_period}

-- submissions one after the other
abbrev pub carries : List Slot → List Sent → List Slot
carries slots [] = slots
carries slots (x ∷ xs) = carries (carry slots x) xs

carries-more : (slots : List Slot) (x : Sent) (xs : List Sent) → carries slots (sends_more x xs) ≡ carries (carry slots x) xs
carries-more slots None xs = refl
carries-more slots (Some p) xs = refl

onward-carries : (slots : List Slot) (said : Said) (line : Line) (r : Ring) (rest : Ran Ring) → r.slots ≡ carry slots line.sent → rest.at.slots ≡ carries r.slots (sends rest.log)
    → (onward said line r rest).at.slots ≡ carries slots (sends (onward said line r rest).log)
onward-carries slots said line r rest e k =
    onward-cases (λ (h : Ran Ring). h.at.slots ≡ carries slots (sends h.log)) said line r rest
    (λ _. k ∙ ap (λ (l : List Slot). carries l (sends rest.log)) e ∙ sym (carries-more slots line.sent (sends rest.log)))
    (λ _. e ∙ sym (carries-more slots line.sent []))

-- the slots after a loop are those before it, with what went out
pub host-carries : (len fuel : ℕ) (r : Ring) (script : List Reading) → (turn_by_turn len fuel r script).at.slots ≡ carries r.slots (sends (turn_by_turn len fuel r script).log)
unfolding loop_of
host-carries len zero r script = refl
host-carries len (suc fuel) r script =
    let s = called len r (first_of script) in
    onward-carries r.slots s.line.said s.line s.left (turn_by_turn len fuel s.left (rest_of script)) refl (host-carries len fuel s.left (rest_of script))

-- submissions at slots in turn, from slot s on, the j-th of some offset and length
abbrev pub Lies : ℕ → (ℕ → ℕ) → (ℕ → ℕ) → List Sent → Type 0
Lies s o l xs = (j : ℕ) → j < length xs → get_or xs j None ≡ sent_period ((s + j) % 32) (o j) (l j)

lies-rest : (s : ℕ) (o l : ℕ → ℕ) (x : Sent) (xs : List Sent) → Lies s o l (x ∷ xs) → Lies (suc s) (λ j. o (suc j)) (λ j. l (suc j)) xs
lies-rest s o l x xs h j b = let e : (s + suc j) % 32 ≡ (suc s + j) % 32 = omega arith in h (suc j) (omega arith) ∙ rw e

-- none of them is at slot q
carries-other : (s : ℕ) (o l : ℕ → ℕ) (slots : List Slot) (q : ℕ) (xs : List Sent) → Lies s o l xs → ((j : ℕ) → j < length xs → q ≢ (s + j) % 32) → get_or (carries slots xs) q blank_slot ≡ get_or slots q blank_slot
carries-other s o l slots q [] h n = refl
carries-other s o l slots q (x ∷ xs) h n =
    carries-other (suc s) (λ j. o (suc j)) (λ j. l (suc j)) (carry slots x) q xs (lies-rest s o l x xs h) (λ j b e. n (suc j) (omega arith) (omega arith))
    ∙ ap (λ (y : Sent). get_or (carry slots y) q blank_slot) (h 0 (omega arith))
    ∙ get_or-set_other slots ((s + 0) % 32) q (record { offset = o 0; len = l 0 }) blank_slot (n 0 (omega arith))

-- one of the last 32 still stands in its slot
pub carries-at : (s : ℕ) (o l : ℕ → ℕ) (slots : List Slot) (i : ℕ) (xs : List Sent) → Lies s o l xs → length slots ≡ 32 → i < length xs → length xs ≤ i + 32
    → get_or (carries slots xs) ((s + i) % 32) blank_slot ≡ record { offset = o i; len = l i }
carries-at s o l slots i [] h n b c = absurd (omega arith)
carries-at s o l slots zero (x ∷ xs) h n b c =
    carries-other (suc s) (λ j. o (suc j)) (λ j. l (suc j)) (carry slots x) ((s + 0) % 32) xs (lies-rest s o l x xs h) (λ j b e. omega arith)
    ∙ ap (λ (y : Sent). get_or (carry slots y) ((s + 0) % 32) blank_slot) (h 0 (omega arith))
    ∙ get_or-set_same slots ((s + 0) % 32) (record { offset = o 0; len = l 0 }) blank_slot (omega arith)
carries-at s o l slots (suc i) (x ∷ xs) h n b c =
    let z : (s + suc i) % 32 ≡ (suc s + i) % 32 = omega arith in
    let size : length (carry slots x) ≡ 32 = ap (λ (y : Sent). length (carry slots y)) (h 0 (omega arith)) ∙ length-set slots ((s + 0) % 32) _ ∙ n in
    ap (λ (q : ℕ). get_or (carries (carry slots x) xs) q blank_slot) z
    ∙ carries-at (suc s) (λ j. o (suc j)) (λ j. l (suc j)) (carry slots x) i xs (lies-rest s o l x xs h) size (omega arith) (omega arith)
