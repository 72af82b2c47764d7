-- The test of wholeness made by direct tests: each number is known, and what is not used is 0.
-- Assumes nothing.
use Rattle.std.specs.Prelude.{◌≡◌, ℕ, Bool, true, false, not, ◌&&◌, ◌==◌, nat_eq, nat_le}
use Rattle.std.proofs.Math.Path.{refl}
use Rattle.std.proofs.Common.{sym, ap, ◌∙◌, arith, le-leb, leb-true, eq-eqb, eqb-true}
use Rattle.std.proofs.lemmas.Bool.{false≢true, eqb-false}
use Rattle.codes.specs.Says.{pick}
use Rattle.state_store.specs.Flat.{kind_number, kind_of, field_number, flat_field, numbered, flat_params, call_flat, staged, flat_of, flat_call, flat_ready, same_flat, whole_flat}
use Rattle.state_store.specs.FlatTests.{plain_of, short_of, same_call}
use Rattle.state_store.specs.Types.{Prepare, Release, Start, Stop, Rates, Formats, Channels, Features, Call, SetParams, Command, Remap, Streams, Supported, Xfer, Capture, Stage, Idle, JacksAsked, StreamsAsked, MapsAsked, Sent, Flat}

-- two tests that hold together are one
same_bool : (a b : Bool) → (a ≡ true → b ≡ true) → (b ≡ true → a ≡ true) → a ≡ b
same_bool true true f g = refl
same_bool true false f g = absurd (false≢true (f refl))
same_bool false true f g = absurd (false≢true (g refl))
same_bool false false f g = refl

and-true : (b : Bool) → b ≡ (b && true)
and-true true = refl
and-true false = refl

self : (n : ℕ) → true ≡ (n == n)
self n = sym (eq-eqb n n refl)

-- a bound, where the numbers below it are told apart
reached : (n k : ℕ) → (n == k) ≡ true → nat_le n k ≡ true
reached n k e = le-leb n k (omega (arith, eqb-true n k e))

within : (n k m : ℕ) → (n == k) ≡ true → (n ≡ k → nat_le n m ≡ true) → nat_le n m ≡ (n == k)
within n k m e f = f (eqb-true n k e) ∙ sym e

-- ---- one field

flag_by : (n : ℕ) (b : Bool) → (n == 0) ≡ b → nat_le n 1 ≡ (n == pick (not b) 1 0)
flag_by n true e = within n 0 1 e (λ z. le-leb n 1 (omega arith))
flag_by n false e = let h = eqb-false n 0 e in same_bool (nat_le n 1) (n == 1) (λ z. let l = leb-true n 1 z in eq-eqb n 1 (omega arith)) (reached n 1)

-- a flag is 0 or 1
flag-test : (n : ℕ) → nat_le n 1 ≡ (n == pick (not (n == 0)) 1 0)
flag-test n = flag_by n (n == 0) refl

kind-by : (n : ℕ) (a b c : Bool) → (n == 0) ≡ a → (n == 1) ≡ b → (n == 2) ≡ c → nat_le n 3 ≡ (n == kind_number (pick a Prepare (pick b Release (pick c Start Stop))))
kind-by n true b c p q r = within n 0 3 p (λ z. le-leb n 3 (omega arith))
kind-by n false true c p q r = within n 1 3 q (λ z. le-leb n 3 (omega arith))
kind-by n false false true p q r = within n 2 3 r (λ z. le-leb n 3 (omega arith))
kind-by n false false false p q r =
    let x = eqb-false n 0 p in
    let y = eqb-false n 1 q in
    let w = eqb-false n 2 r in
    same_bool (nat_le n 3) (n == 3) (λ z. let l = leb-true n 3 z in eq-eqb n 3 (omega arith)) (reached n 3)

kind-test : (n : ℕ) → nat_le n 3 ≡ (n == kind_number (kind_of n))
kind-test n = kind-by n (n == 0) (n == 1) (n == 2) refl refl refl

field-by : (n : ℕ) (a b c : Bool) → (n == 0) ≡ a → (n == 1) ≡ b → (n == 2) ≡ c → nat_le n 3 ≡ (n == field_number (pick a Rates (pick b Formats (pick c Channels Features))))
field-by n true b c p q r = within n 0 3 p (λ z. le-leb n 3 (omega arith))
field-by n false true c p q r = within n 1 3 q (λ z. le-leb n 3 (omega arith))
field-by n false false true p q r = within n 2 3 r (λ z. le-leb n 3 (omega arith))
field-by n false false false p q r =
    let x = eqb-false n 0 p in
    let y = eqb-false n 1 q in
    let w = eqb-false n 2 r in
    same_bool (nat_le n 3) (n == 3) (λ z. let l = leb-true n 3 z in eq-eqb n 3 (omega arith)) (reached n 3)

field-test : (n : ℕ) → nat_le n 3 ≡ (n == field_number (flat_field n))
field-test n = field-by n (n == 0) (n == 1) (n == 2) refl refl refl

-- ---- a call's fields, by its number

module _ (f : Flat) where
  by : {b : Bool} {k : Call} → k ≡ flat_call f → b ≡ same_call f (call_flat k) → b ≡ same_call f (call_flat (flat_call f))
  by p e = e ∙ ap (λ (k : Call). same_call f (call_flat k)) p

  pub set-test : nat_eq f.call 1 ≡ true → SetParams f.id (flat_params f) ≡ flat_call f → (f.part == 0) ≡ same_call f (call_flat (flat_call f))
  set-test e p =
      by p (and-true (f.part == 0)
      ∙ (λ i. sym e i && (f.part == 0 && (self f.id i && (self f.first i && (self f.second i && (self f.third i && (self f.known i && (self f.channels i && (self f.format i && self f.rate i))))))))))

  pub command-test : nat_eq f.call 2 ≡ true → Command (kind_of f.part) f.id ≡ flat_call f → (nat_le f.part 3 && short_of f) ≡ same_call f (call_flat (flat_call f))
  command-test e p = by p (λ i. sym e i && (kind-test f.part i && (self f.id i && short_of f)))

  pub remap-test : nat_eq f.call 3 ≡ true → Remap f.id f.first f.second ≡ flat_call f → (f.part == 0 && plain_of f) ≡ same_call f (call_flat (flat_call f))
  remap-test e p = by p (λ i. sym e i && (f.part == 0 && (self f.id i && (self f.first i && (self f.second i && plain_of f)))))

  pub streams-test : nat_eq f.call 4 ≡ true → Streams f.part ≡ flat_call f → (f.id == 0 && short_of f) ≡ same_call f (call_flat (flat_call f))
  streams-test e p = by p (λ i. sym e i && (self f.part i && (f.id == 0 && short_of f)))

  pub supported-test : nat_eq f.call 5 ≡ true → Supported (flat_field f.part) f.id ≡ flat_call f → (nat_le f.part 3 && short_of f) ≡ same_call f (call_flat (flat_call f))
  supported-test e p = by p (λ i. sym e i && (field-test f.part i && (self f.id i && short_of f)))

  pub xfer-test : nat_eq f.call 6 ≡ true → Xfer f.id ≡ flat_call f → (f.part == 0 && short_of f) ≡ same_call f (call_flat (flat_call f))
  xfer-test e p = by p (λ i. sym e i && (f.part == 0 && (self f.id i && short_of f)))

  pub capture-test : nat_eq f.call 7 ≡ true → Capture f.id ≡ flat_call f → (f.part == 0 && short_of f) ≡ same_call f (call_flat (flat_call f))
  capture-test e p = by p (λ i. sym e i && (f.part == 0 && (self f.id i && short_of f)))

  pub unknown-test : nat_eq f.call 7 ≡ false → Capture f.id ≡ flat_call f → false ≡ same_call f (call_flat (flat_call f))
  unknown-test e p = by p (λ i. sym e i && (f.part == 0 && (f.id == f.id && short_of f)))

  -- ---- the whole, by the stage

  at_stage : (n : ℕ) (call : Call) → nat_le f.stage 4 ≡ (f.stage == n) → (nat_le f.ready 1 && (nat_le f.stage 4 && same_call f (call_flat call))) ≡ same_flat f (staged (flat_ready f) n (call_flat call))
  unfolding same_flat
  at_stage n call e = λ i. flag-test f.ready i && (e i && same_call f (call_flat call))

  stage-by : (call : Call) (a b c d : Bool) → (f.stage == 0) ≡ a → (f.stage == 1) ≡ b → (f.stage == 2) ≡ c → (f.stage == 3) ≡ d → a ≡ false
      → (nat_le f.ready 1 && (nat_le f.stage 4 && same_call f (call_flat call)))
      ≡ same_flat f (flat_of (flat_ready f) (pick a Idle (pick b (JacksAsked call) (pick c (StreamsAsked call) (pick d (MapsAsked call) (Sent call))))))
  stage-by call true b c d p q r s h = absurd (false≢true (sym h))
  stage-by call false true c d p q r s h = at_stage 1 call (within f.stage 1 4 q (λ z. le-leb f.stage 4 (omega arith)))
  stage-by call false false true d p q r s h = at_stage 2 call (within f.stage 2 4 r (λ z. le-leb f.stage 4 (omega arith)))
  stage-by call false false false true p q r s h = at_stage 3 call (within f.stage 3 4 s (λ z. le-leb f.stage 4 (omega arith)))
  stage-by call false false false false p q r s h =
      let x = eqb-false f.stage 0 p in
      let y = eqb-false f.stage 1 q in
      let w = eqb-false f.stage 2 r in
      let v = eqb-false f.stage 3 s in
      at_stage 4 call (same_bool (nat_le f.stage 4) (f.stage == 4) (λ z. let l = leb-true f.stage 4 z in eq-eqb f.stage 4 (omega arith)) (reached f.stage 4))

  pub whole-some : nat_eq f.stage 0 ≡ false → (nat_le f.ready 1 && (nat_le f.stage 4 && same_call f (call_flat (flat_call f)))) ≡ whole_flat f
  unfolding whole_flat
  whole-some e = stage-by (flat_call f) (f.stage == 0) (f.stage == 1) (f.stage == 2) (f.stage == 3) refl refl refl refl e

  none-by : (a : Bool) (rest : Stage) → (f.stage == 0) ≡ a → a ≡ true → (nat_le f.ready 1 && same_call f (numbered 0 0 0 0 0)) ≡ same_flat f (flat_of (flat_ready f) (pick a Idle rest))
  unfolding same_flat
  none-by true rest e h = λ i. flag-test f.ready i && (sym e i && same_call f (numbered 0 0 0 0 0))
  none-by false rest e h = absurd (false≢true h)

  pub whole-none : nat_eq f.stage 0 ≡ true → (nat_le f.ready 1 && same_call f (numbered 0 0 0 0 0)) ≡ whole_flat f
  unfolding whole_flat
  whole-none e = none-by (f.stage == 0) _ refl e
