-- From facts to moves: each return of the judge's step is one of these.
-- Assumes nothing.
use Rattle.std.specs.Prelude.{List, [], ◌++◌, ◌≡◌, refl, ℕ, suc, ◌+◌, ◌<◌, Result, Err}
use Rattle.std.proofs.Common.{sym, ap, ◌∙◌, arith, eq-eqb, ne_eqb}
use Rattle.layout.specs.Bytes.{le}
use Rattle.codes.specs.SaysLaws.{passes, stops}
use Rattle.turns.specs.Rules.{choose_of, next_span, submit}
use Rattle.trace.specs.Judge.{on, agree, sent_move, move_by, move_of}
use Rattle.trace.specs.AgreeLaws.{four4, other-slot, other_offset}
use Rattle.trace.specs.Types.{Track, Choice, Field, Stage, Out, State}

module _ (t : Track) (s o l : ℕ) where
  pub sent-slot : s < 256 → t.head < 32 → (s ≡ t.head → ⊥) → Err 3 ≡ sent_move t s o l
  sent-slot a b ne = let h : t.head < 256 = omega arith in stops _ _ _ (ne_eqb _ _ ne) (ap Err (other-slot s o l t.head t.next (next_span t) a h ne))

  pub sent-offset : (k n : ℕ) → s ≡ t.head → n ≡ t.next → (o ≡ n → ⊥) → ((xs ys : List ℕ) → k ≡ agree (le 4 o ++ xs) (le 4 n ++ ys)) → Err (4 + k) ≡ sent_move t s o l
  sent-offset k n e en ne f =
      passes _ _ _ (eq-eqb _ _ e)
      (stops _ _ _ (ne_eqb _ _ (λ z. ne (z ∙ sym en)))
      (ap Err (other_offset s o l t.head t.next (next_span t) k e (f (le 4 l ++ []) (le 4 (next_span t) ++ []) ∙ ap (λ (z : ℕ). agree (le 4 o ++ (le 4 l ++ [])) (le 4 z ++ (le 4 (next_span t) ++ []))) en))))

  pub sent-len : (k p : ℕ) → s ≡ t.head → o ≡ t.next → p ≡ next_span t → (l ≡ p → ⊥) → ((xs ys : List ℕ) → k ≡ agree (le 4 l ++ xs) (le 4 p ++ ys)) → Err (8 + k) ≡ sent_move t s o l
  sent-len k p e eo ep ne f =
      let z : 8 + k ≡ 4 + suc (suc (suc (suc k))) = omega arith in
      passes _ _ _ (eq-eqb _ _ e)
      (passes _ _ _ (eq-eqb _ _ eo)
      (stops _ _ _ (ne_eqb _ _ (λ x. ne (x ∙ sym ep)))
      (ap Err (z ∙ other_offset s o l t.head t.next (next_span t) (suc (suc (suc (suc k)))) e (four4 o t.next (le 4 l ++ []) (le 4 (next_span t) ++ []) k eo (f [] [] ∙ ap (λ (x : ℕ). agree (le 4 l ++ []) (le 4 x ++ [])) ep))))))

  pub sent-on : s ≡ t.head → o ≡ t.next → l ≡ next_span t → on Out (submit t) ≡ sent_move t s o l
  sent-on e eo el = passes _ _ _ (eq-eqb _ _ e) (passes _ _ _ (eq-eqb _ _ eo) (passes _ _ _ (eq-eqb _ _ el) refl))

-- a field taken apart, and rule 1's choice at hand
pub moved-is : (least : ℕ) (st : Stage) (t : Track) (f g : Field) (c : Choice) (m : Result State ℕ) → f ≡ g → c ≡ choose_of least t → m ≡ move_by st c t g → m ≡ move_of least st t f
unfolding move_of
moved-is least st t f g c m e q p = p ∙ ap (λ (d : Choice). move_by st d t g) q ∙ ap (λ (h : Field). move_by st (choose_of least t) t h) (sym e)
