-- What holds of every loop: every line is some turn's, it says what its last line says, and it looks at no more of its script than the turns that it runs.
-- Assumes nothing.
use Prim.Native.Nat.{ℕ, zero, suc, ◌≤◌, ◌<◌}
use Rattle.std.proofs.Common.{arith, sym, ◌∙◌}
use Rattle.std.specs.Prelude.{◌≡◌, length, take}
use Rattle.std.proofs.Math.Path.{refl, ap}
use mathlib.Core.List.{List, [], ◌∷◌}
use Rattle.layout.specs.All.{All}
use Rattle.turns.specs.CaseLaws.{onward-cases}
use Rattle.turns.specs.Log.{Line, Ran, Told, onward, next_of, rest_of, loop_of}
use Rattle.turns.specs.Types.{Said, Going, Done, Ended, Refused}

module _ {A R : Type 0} (quiet : R) (turn : A → R → Told A) where
  next-taken : (n : ℕ) (script : List R) → next_of quiet (take (suc n) script) ≡ next_of quiet script
  next-taken n [] = refl
  next-taken n (x ∷ xs) = refl

  rest-taken : (n : ℕ) (script : List R) → rest_of (take (suc n) script) ≡ take n (rest_of script)
  rest-taken zero [] = refl
  rest-taken (suc n) [] = refl
  rest-taken n (x ∷ xs) = refl

  onward-same : (said : Said) (line : Line) (a : A) (h k : Ran A) (n : ℕ) → length (onward said line a h).log ≤ suc n → (length h.log ≤ n → k ≡ h)
      → onward said line a k ≡ onward said line a h
  onward-same Going line a h k n b f = ap (onward Going line a) (f (omega arith))
  onward-same Done line a h k n b f = refl
  onward-same (Ended r) line a h k n b f = refl
  onward-same (Refused r) line a h k n b f = refl

  onward-some : (said : Said) (line : Line) (a : A) (h : Ran A) → 0 < length (onward said line a h).log
  onward-some Going line a h = omega arith
  onward-some Done line a h = omega arith
  onward-some (Ended r) line a h = omega arith
  onward-some (Refused r) line a h = omega arith

  pub loop-prefix : (fuel : ℕ) (a : A) (script : List R) (n : ℕ) → length (loop_of quiet turn fuel a script).log ≤ n
      → loop_of quiet turn fuel a (take n script) ≡ loop_of quiet turn fuel a script
  unfolding loop_of
  loop-prefix zero a script n b = refl
  loop-prefix (suc fuel) a script zero b =
      let t = turn a (next_of quiet script) in
      absurd (omega (arith, b, onward-some t.line.said t.line t.left (loop_of quiet turn fuel t.left (rest_of script))))
  loop-prefix (suc fuel) a script (suc n) b =
      let step : R → List R → Ran A = λ x xs. let t = turn a x in onward t.line.said t.line t.left (loop_of quiet turn fuel t.left xs) in
      let t = turn a (next_of quiet script) in
      let rest = loop_of quiet turn fuel t.left (rest_of script) in
      ap (λ (x : R). step x (rest_of (take (suc n) script))) (next-taken n script)
      ∙ ap (λ (xs : List R). step (next_of quiet script) xs) (rest-taken n script)
      ∙ onward-same t.line.said t.line t.left rest (loop_of quiet turn fuel t.left (take n (rest_of script))) n b (λ c. loop-prefix fuel t.left (rest_of script) n c)

-- every line of a loop is some turn's
pub all_lines : {A R : Type 0} (P : Line → Type 0) (quiet : R) (turn : A → R → Told A) → ((a : A) (x : R) → P (turn a x).line)
    → (fuel : ℕ) (a : A) (script : List R)
    → All P (loop_of quiet turn fuel a script).log
unfolding loop_of
all_lines P quiet turn holds zero a script = tt
all_lines {A} P quiet turn holds (suc fuel) a script =
    let x = next_of quiet script in
    let t = turn a x in
    onward-cases (λ (h : Ran A). All P h.log) t.line.said t.line t.left (loop_of quiet turn fuel t.left (rest_of script))
    (λ _. (holds a x, all_lines P quiet turn holds fuel t.left (rest_of script))) (λ _. (holds a x, tt))

-- ---- what a loop says is what its last line says

abbrev last_said : List Line → Said
last_said [] = Going
last_said (l ∷ []) = l.said
last_said (l ∷ (k ∷ ls)) = last_said (k ∷ ls)

goes_on : (line : Line) (log : List Line) → line.said ≡ Going → last_said log ≡ last_said (line ∷ log)
goes_on line [] e = sym e
goes_on line (k ∷ ls) e = refl

onward-said : {A : Type 0} (said : Said) (line : Line) (a : A) (h : Ran A) → line.said ≡ said → h.said ≡ last_said h.log
    → (onward said line a h).said ≡ last_said (onward said line a h).log
onward-said Going line a h e k = k ∙ goes_on line h.log e
onward-said Done line a h e k = sym e
onward-said (Ended r) line a h e k = sym e
onward-said (Refused r) line a h e k = sym e

last-said : {A R : Type 0} (quiet : R) (turn : A → R → Told A) (fuel : ℕ) (a : A) (script : List R)
    → (loop_of quiet turn fuel a script).said ≡ last_said (loop_of quiet turn fuel a script).log
unfolding loop_of
last-said quiet turn zero a script = refl
last-said quiet turn (suc fuel) a script =
    let t = turn a (next_of quiet script) in
    let rest = loop_of quiet turn fuel t.left (rest_of script) in
    onward-said t.line.said t.line t.left rest refl (last-said quiet turn fuel t.left (rest_of script))

-- two loops with one log say one thing
pub same-said : {A B R : Type 0} (quiet : R) (f : A → R → Told A) (g : B → R → Told B) (m n : ℕ) (a : A) (b : B) (xs ys : List R)
    → (loop_of quiet f m a xs).log ≡ (loop_of quiet g n b ys).log → (loop_of quiet f m a xs).said ≡ (loop_of quiet g n b ys).said
same-said quiet f g m n a b xs ys e = last-said quiet f m a xs ∙ ap last_said e ∙ sym (last-said quiet g n b ys)
