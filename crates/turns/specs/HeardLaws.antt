-- How many completions of a run were good: the ring's count is the number of accepted ones. Draining and what is refused leave the count.
-- Assumes nothing.
use Rattle.std.specs.Prelude.{ℕ, zero, suc, ◌+◌, ◌%◌, ◌≤◌, ◌<◌, ◌≡◌, refl, ◌⊎◌, List, [], ◌∷◌, map, eqb, length, get_or, take, Some, None}
use Rattle.std.proofs.Common.{arith, zero-add, ap, sym, ◌∙◌, subst, inl, inr, length-take, get_or-take, take-take, eq-eqb, ne_eqb}
use Rattle.std.proofs.lemmas.List.{length-map}
use Rattle.std.proofs.Math.ListN.{get_or-map}
use Rattle.codes.specs.Says.{pick}
use Rattle.codes.specs.SaysLaws.{guarded-by}
use Rattle.turns.specs.Cut.{cut, payload}
use Rattle.turns.specs.Ring.{says_said}
use Rattle.turns.specs.Rules.{choose_of, submit, sent_of, comes_to, played_of, judge_of, settle, hear, act, turn_of, counted_of}
use Rattle.turns.specs.RuleLaws.{Judged, judged, played-fine, played-fails}
use Rattle.turns.specs.Calls.{begun, drain_call}
use Rattle.turns.specs.CaseLaws.{counted-cases, onward-cases}
use Rattle.turns.specs.KeepLaws.{turn-plain}
use Rattle.turns.specs.Log.{Line, Ran, onward, first_of, rest_of, loop_of, played, ruled, run, frees_more, frees, sends, turn_by_turn}
use Rattle.turns.specs.Asked.{starts, Ending, Accepted, Accounted}
use Rattle.turns.specs.RunLaws.{map-take}
use Rattle.turns.specs.DemandLaws.{as-run}
use Rattle.turns.specs.Types.{Track, Ring, Sent, Heard, Said, Going, Step, Reading, Choice, Submit, Finish, Wait, Verdict, WrongSlot, Good, Bad, freed_slot}

-- ---- good completions, counted

abbrev is_good : ℕ → ℕ
is_good status = pick (eqb status 0x8000) 1 0

abbrev good_one : Heard → ℕ
good_one None = 0
good_one (Some f) = is_good f.status

abbrev pub goods : List Heard → ℕ
goods [] = 0
goods (x ∷ xs) = good_one x + goods xs

goods-more : (x : Heard) (xs : List Heard) → goods (frees_more x xs) ≡ good_one x + goods xs
goods-more None xs = omega arith
goods-more (Some f) xs = refl

-- ---- A TURN counts its completion, if it is good

abbrev Counts : Track → Step → Type 0
Counts t s = s.track.good ≡ t.good + good_one s.heard

is-good : (status : ℕ) → status ≡ 0x8000 → is_good status ≡ 1
is-good status e = rw (eq-eqb status 0x8000 e)

is-bad : (status : ℕ) → (status ≡ 0x8000 → ⊥) → is_good status ≡ 0
is-bad status n = rw (ne_eqb status 0x8000 n)

settle-counts : (sent : Sent) (t : Track) (slot status : ℕ) (v : Verdict) → Judged t slot (played_of status) v → Counts t (settle v sent t slot status)
settle-counts sent t slot status WrongSlot j = omega arith
settle-counts sent t slot status Good j = omega (arith, is-good status (played-fine status j.2))
settle-counts sent t slot status (Bad r) j = omega (arith, is-bad status (played-fails status r j.2).0)

hear-counts : (sent : Sent) (t : Track) (reading : Reading) → Counts t (hear (comes_to played_of reading) sent t reading)
hear-counts sent t None = omega arith
hear-counts sent t (Some c) = settle-counts sent t c.slot c.status (judge_of t c.slot (played_of c.status)) (judged t c.slot (played_of c.status))

act-counts : (c : Choice) (t : Track) (reading : Reading) → Counts t (act c t (comes_to played_of reading) reading)
act-counts Submit t reading = hear-counts (sent_of t) (submit t) reading
act-counts Finish t reading = omega arith
act-counts Wait t reading = hear-counts None t reading

turn-counts : (least : ℕ) (t : Track) (reading : Reading) → Counts t (counted_of (turn_of least t (comes_to played_of reading) reading))
unfolding turn_of
turn-counts least t reading =
    let a = act-counts (choose_of least t) t reading in
    counted-cases (Counts t) (turn_of least t (comes_to played_of reading) reading) (turn-plain least t (comes_to played_of reading) reading) (λ _. a) (λ _ _. a)

-- ---- A RUN

onward-counts : (t : Track) (said : Said) (line : Line) (n : Track) (rest : Ran Track) → n.good ≡ t.good + good_one line.heard → rest.at.good ≡ n.good + goods (frees rest.log)
    → (onward said line n rest).at.good ≡ t.good + goods (frees (onward said line n rest).log)
onward-counts t said line n rest e k =
    onward-cases (λ (o : Ran Track). o.at.good ≡ t.good + goods (frees o.log)) said line n rest
    (λ _. omega (arith, goods-more line.heard (frees rest.log)))
    (λ _. omega (arith, goods-more line.heard []))

run-counts : (least fuel : ℕ) (t : Track) (script : List Reading) → (run played least fuel t script).at.good ≡ t.good + goods (frees (run played least fuel t script).log)
unfolding loop_of
run-counts least zero t script = omega arith
run-counts least (suc fuel) t script =
    let s = ruled played least t (first_of script) in
    onward-counts t s.line.said s.line s.left (run played least fuel s.left (rest_of script)) (turn-counts least t (first_of script)) (run-counts least fuel s.left (rest_of script))

-- ---- the accepted ones are the good ones

-- k good completions, and then none, or one that is not good
goods-are : (back : List Heard) (k : ℕ) (at : ℕ → ℕ) → ((i : ℕ) → i < k → get_or back i None ≡ freed_slot (at i) 0x8000)
    → (length back ≡ k) ⊎ ((length back ≡ suc k) × ((slot : ℕ) × (status : ℕ) × (get_or back k None ≡ freed_slot slot status) × (status ≡ 0x8000 → ⊥)))
    → goods back ≡ k
goods-are [] zero at good e = refl
goods-are [] (suc k) at good (inl e) = absurd (omega arith)
goods-are [] (suc k) at good (inr e) = absurd (omega (arith, e.0))
goods-are (x ∷ back) zero at good (inl e) = absurd (omega arith)
goods-are (x ∷ []) zero at good (inr e) = omega (arith, ap good_one e.1.2, is-bad e.1.1 e.1.3)
goods-are (x ∷ y ∷ back) zero at good (inr e) = absurd (omega (arith, e.0))
goods-are (x ∷ back) (suc k) at good (inl e) =
    omega (arith, ap good_one (good 0 (omega arith)), goods-are back k (λ i. at (suc i)) (λ i b. good (suc i) (omega arith)) (inl (omega arith)))
goods-are (x ∷ back) (suc k) at good (inr e) =
    omega (arith, ap good_one (good 0 (omega arith)), goods-are back k (λ i. at (suc i)) (λ i b. good (suc i) (omega arith)) (inr (omega (arith, e.0), e.1)))

ending-by : (answer : ℕ) (back : List Heard) (k : ℕ) → Ending answer 0 back k
    → (length back ≡ k) ⊎ ((length back ≡ suc k) × ((slot : ℕ) × (status : ℕ) × (get_or back k None ≡ freed_slot slot status) × (status ≡ 0x8000 → ⊥)))
ending-by answer back k (inl e) = inl e.1
ending-by answer back k (inr e) = inr (e.1, (_, e.2.0, e.2.1, e.2.2))

pub accepted-goods : (answer : ℕ) (back : List Heard) (a : Accepted answer 0 back) → goods back ≡ a.accepted
accepted-goods answer back a = goods-are back a.accepted (λ i. (0 + i) % 32) a.good (ending-by answer back a.accepted a.end)

-- ---- what is accounted, by that count

module _ (period : ℕ) (frames : List ℕ) (h : Ran Ring) (a : Accounted period frames h.said h.at.track h.log) (count : h.at.track.good ≡ goods (frees h.log)) where
  same : a.back.accepted ≡ h.at.track.good
  same = sym (accepted-goods _ _ a.back) ∙ sym count

  -- f is 1 where the answer is 2, and else 0
  heard-by : (f k : ℕ) → ((says_said h.said).number ≡ 2 → f ≡ 1) → (((says_said h.said).number ≡ 2 → ⊥) → f ≡ 0) → Ending (says_said h.said).number 0 (frees h.log) k → length (frees h.log) ≡ k + f
  heard-by f k two other (inl e) = omega (arith, other e.0, e.1)
  heard-by f k two other (inr e) = omega (arith, two e.0, e.1)

  pub heard_all : (f : ℕ) → ((says_said h.said).number ≡ 2 → f ≡ 1) → (((says_said h.said).number ≡ 2 → ⊥) → f ≡ 0) → length (frees h.log) ≡ h.at.track.good + f
  heard_all f two other = heard-by f a.back.accepted two other a.back.end ∙ ap (λ (k : ℕ). k + f) same

  pub accepted-good : (i : ℕ) → i < h.at.track.good → get_or (frees h.log) i None ≡ freed_slot (i % 32) 0x8000
  accepted-good i b = simp zero-add at (a.back.good i (omega (arith, same)))

  fails_by : (k : ℕ) → (says_said h.said).number ≡ 2 → Ending (says_said h.said).number 0 (frees h.log) k → (status : ℕ) × (get_or (frees h.log) k None ≡ freed_slot (k % 32) status) × (status ≡ 0x8000 → ⊥)
  fails_by k two (inl e) = absurd (e.0 two)
  fails_by k two (inr e) = simp zero-add at e.2

  pub failing-next : (says_said h.said).number ≡ 2 → (status : ℕ) × (get_or (frees h.log) h.at.track.good None ≡ freed_slot (h.at.track.good % 32) status) × (status ≡ 0x8000 → ⊥)
  failing-next two = subst (λ (k : ℕ). (status : ℕ) × (get_or (frees h.log) k None ≡ freed_slot (k % 32) status) × (status ≡ 0x8000 → ⊥)) same (fails_by a.back.accepted two a.back.end)

  -- the payload of each submission is its period
  pub payload-at : (i : ℕ) → i < length (sends h.log) → payload frames (get_or (sends h.log) i None) ≡ get_or (cut period frames) i []
  payload-at i b =
      sym (get_or-map (payload frames) (sends h.log) i None)
      ∙ ap (λ (l : List (List ℕ)). get_or l i []) a.payloads
      ∙ get_or-take (length (sends h.log)) (cut period frames) i [] b

  pub payloads-first : (k : ℕ) → k ≤ length (sends h.log) → map (payload frames) (take k (sends h.log)) ≡ take k (cut period frames)
  payloads-first k b = map-take (payload frames) k (sends h.log) ∙ ap (take k) a.payloads ∙ take-take k (length (sends h.log)) (cut period frames) b

  -- no more went out than there are
  pub within : length (sends h.log) ≤ length (cut period frames)
  within =
      let n = length-take (length (sends h.log)) (cut period frames) in
      omega (arith, sym (length-map (sends h.log) (payload frames)) ∙ ap length a.payloads)

-- ---- of a start that goes on, and the turns after it
module _ (r : Ring) (stream period budget : ℕ) (frames : List ℕ) (script : List Reading) (began : (starts r stream period budget frames).said ≡ Going) where
  pub plays-counts : (n : ℕ) → let h = turn_by_turn (length frames) n (starts r stream period budget frames).ring script in h.at.track.good ≡ goods (frees h.log)
  plays-counts n =
      subst (λ (o : Ran Track). o.at.good ≡ goods (frees o.log)) (sym (as-run r stream period budget frames script began n)) (simp zero-add at (run-counts r.track.descriptors n (begun r.track stream (length frames) period budget) script))

-- ---- what leaves the count

pub drain-keeps-count : (t : Track) (reading : Reading) → (drain_call t reading).track.good ≡ t.good
unfolding drain_call
drain-keeps-count t None = guarded-by (λ (s : Step). s.track.good ≡ t.good) _ _ _ (λ _. guarded-by (λ (s : Step). s.track.good ≡ t.good) _ _ _ (λ _. refl) (λ _. refl)) (λ _. refl)
drain-keeps-count t (Some c) =
    let P : Step → Type 0 = λ s. s.track.good ≡ t.good in
    guarded-by P _ _ _ (λ _. guarded-by P _ _ _ (λ _. refl) (λ _. guarded-by P _ _ _ (λ _. refl) (λ _. refl))) (λ _. refl)
