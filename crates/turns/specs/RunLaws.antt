-- Demand 3, both halves, and the account of the periods, of a run of the rules from the beginning of a transfer.
-- Assumes nothing.
use Rattle.std.specs.Prelude.{ℕ, zero, suc, ◌+◌, ◌*◌, ◌%◌, ◌≤◌, ◌<◌, ◌≡◌, refl, Bool, false, List, [], ◌∷◌, ◌++◌, map, length, get_or, take, Some, None}
use Rattle.std.proofs.Common.{arith, zero-add, ap, sym, ◌∙◌, subst, inl, inr, append-nil, length-append, get_or-take}
use Rattle.std.proofs.lemmas.Simd.{map-map}
use Rattle.std.proofs.Math.Seq.{take-append_seam}
use Rattle.layout.specs.Bytes.{le}
use Rattle.layout.specs.All.{All}
use Rattle.turns.specs.Cut.{cut, payload}
use Rattle.turns.specs.Ring.{after, says_said}
use Rattle.turns.specs.Calls.{begun_as, begun}
use Rattle.turns.specs.Log.{Line, Ran, Judge, played, run, sends, frees}
use Rattle.turns.specs.CutLaws.{plan, spans-done, plan-shows, plan-count, plan-at, cut-joined, cut-whole}
use Rattle.turns.specs.Asked.{NoFault, Faultless, CompletesWithin, Whole, Ending, Accepted, Accounted}
use Rattle.turns.specs.AccountLaws.{ahead, Just, Two, played-just, InOrder, account}
use Rattle.turns.specs.TimeLaws.{lively, due-full, live}
use Rattle.turns.specs.Types.{Track, Sent, Heard, Said, Done, Reading, freed_slot}

step : (slot i : ℕ) → (after slot + i) % 32 ≡ (slot + suc i) % 32
step slot i = omega arith

accepted-good : (slot s status : ℕ) (back : List Heard) (k : ℕ) → slot < 32 → s ≡ slot → status ≡ 0x8000 → ((i : ℕ) → i < k → get_or back i None ≡ freed_slot ((after slot + i) % 32) 0x8000)
    → (i : ℕ) → i < suc k → get_or (freed_slot s status ∷ back) i None ≡ freed_slot ((slot + i) % 32) 0x8000
accepted-good slot s status back k h e ok good zero b = let z : (slot + 0) % 32 ≡ slot = omega arith in rw (e, ok, z)
accepted-good slot s status back k h e ok good (suc i) b = good i (omega arith) ∙ rw (step slot i)

accepted-end : (answer slot : ℕ) (x : Heard) (back : List Heard) (k : ℕ) → Ending answer (after slot) back k → Ending answer slot (x ∷ back) (suc k)
accepted-end answer slot x back k (inl o) = inl (o.0, ap suc o.1)
accepted-end answer slot x back k (inr o) = inr (o.0, ap suc o.1, (o.2.0, o.2.1 ∙ rw (step slot k), o.2.2))

pub accepted : (answer slot : ℕ) (back : List Heard) → InOrder Two answer slot back → slot < 32 → Accepted answer slot back
accepted answer slot [] o h = record { accepted = 0; good = λ i b. absurd (omega arith); end = inl (o, refl) }
accepted answer slot (None ∷ back) o h = absurd o
accepted answer slot (Some f ∷ back) (e, inr o) h =
    let z : slot ≡ (slot + 0) % 32 = omega arith in
    record { accepted = 0; good = λ i b. absurd (omega arith); end = inr (o.1, ap suc (ap length o.2), (f.status, ap (λ (x : ℕ). freed_slot x f.status) (e ∙ z), o.0 o.1)) }
accepted answer slot (Some f ∷ back) (e, inl (ok, o)) h =
    let k = accepted answer (after slot) back o (omega arith) in
    record { accepted = suc k.accepted; good = accepted-good slot f.slot f.status back k.accepted h e ok k.good; end = accepted-end answer slot (Some f) back k.accepted k.end }

-- where the answer is no fault, all of them
all-good : (Fault : ℕ → Type 0) (answer slot : ℕ) (back : List Heard) → InOrder Fault answer slot back → (Fault answer → ⊥) → slot < 32 → (i : ℕ) → i < length back → get_or back i None ≡ freed_slot ((slot + i) % 32) 0x8000
all-good Fault answer slot [] o right h i b = absurd (omega arith)
all-good Fault answer slot (None ∷ back) o right h i b = absurd o
all-good Fault answer slot (Some f ∷ back) (e, inr o) right h i b = absurd (right o.1)
all-good Fault answer slot (Some f ∷ back) (e, inl (ok, o)) right h zero b = let z : (slot + 0) % 32 ≡ slot = omega arith in rw (e, ok, z)
all-good Fault answer slot (Some f ∷ back) (e, inl (ok, o)) right h (suc i) b = all-good Fault answer (after slot) back o right (omega arith) i (omega arith) ∙ rw (step slot i)

pub map-take : {A B : Type 0} (f : A → B) (n : ℕ) (l : List A) → map f (take n l) ≡ take n (map f l)
map-take f zero l = refl
map-take f (suc n) [] = refl
map-take f (suc n) (x ∷ xs) = ap (λ l. f x ∷ l) (map-take f n xs)

-- the two halves, of an outcome
abbrev pub InTimeBy : {A : Type 0} → (ℕ → Type 0) → ℕ → ℕ → Ran A → Type 0
InTimeBy Fault n g o = All (Faultless Fault) o.log → CompletesWithin g o.log → (o.said ≡ Done) × (length o.log ≤ n * g + 1)

abbrev pub InTime : {A : Type 0} → ℕ → ℕ → Ran A → Type 0
InTime n g o = All NoFault o.log → CompletesWithin g o.log → (o.said ≡ Done) × (length o.log ≤ n * g + 1)

abbrev pub OnlyIf : {A : Type 0} → ℕ → ℕ → List ℕ → Ran A → Type 0
OnlyIf stream period frames o = o.said ≡ Done → Whole stream period frames o.log

-- all that was planned went out, and all of it came back good, no earlier than it went out
pub record Through (period total : ℕ) (log : List Line) : Type 0 where
  pub out : sends log ≡ plan period total
  pub heard : length (frees log) ≡ length (plan period total)
  pub good : (i : ℕ) → i < length (frees log) → get_or (frees log) i None ≡ freed_slot (i % 32) 0x8000
  pub timely : (k : ℕ) → length (frees (take k log)) ≤ length (sends (take k log))

-- ---- by any judgement, in either direction
module _ {R : Type 0} {Fault : ℕ → Type 0} (j : Judge R) (just : Just j Fault) (none : Fault 0 → ⊥) (capture : Bool) (lent least stream period total budget : ℕ) (t : Track) (script : List R) (some : 0 < period) where
  pub run-in-time : (g : ℕ) → least ≤ 32 → 0 < g → length (plan period total) * g + 1 ≤ budget → InTimeBy Fault (length (plan period total)) g (run j least budget (begun_as capture lent t stream total period budget) script)
  run-in-time g fits pos enough right every =
      let n = length (plan period total) in
      let full = due-full g n in
      let got = live j just least g budget total n g (begun_as capture lent t stream total period budget) script fits (omega arith) (omega arith, some) (omega arith) pos (omega arith) right (lively g _ pos every) (omega arith) in
      (got.0, omega arith)

  pub run-through : (run j least budget (begun_as capture lent t stream total period budget) script).said ≡ Done → Through period total (run j least budget (begun_as capture lent t stream total period budget) script).log
  run-through ok =
      let o = run j least budget (begun_as capture lent t stream total period budget) script in
      let k = account j just least budget total (begun_as capture lent t stream total period budget) script (omega arith, some) in
      let number : (says_said o.said).number ≡ 0 = ap (λ (s : Said). (says_said s).number) ok in
      let done = k.done number in
      let ahead_none : ahead k.fuel o.at ≡ [] = spans-done k.fuel o.at.period o.at.total o.at.next o.at.head done.0 in
      let all : sends o.log ≡ plan period total = sym (append-nil (sends o.log)) ∙ ap (λ (l : List Sent). sends o.log ++ l) (sym ahead_none) ∙ k.sent in
      record {
        out = all;
        heard = omega (arith, k.owed, done.1, ap length all);
        good = λ i h. simp zero-add at (all-good Fault _ 0 (frees o.log) k.back (λ e. none (subst Fault number e)) (omega arith) i h);
        timely = λ i. omega (arith, k.timely i);
      }

-- ---- of a playback
module _ (least stream period budget : ℕ) (frames : List ℕ) (t : Track) (script : List Reading) (some : 0 < period) where
  -- after every number of turns
  pub run-accounted : (n : ℕ) → let o = run played least n (begun t stream (length frames) period budget) script in Accounted period frames o.said o.at o.log
  run-accounted n =
      let o = run played least n (begun t stream (length frames) period budget) script in
      let k = account played played-just least n (length frames) (begun t stream (length frames) period budget) script (omega arith, some) in
      let m = length (sends o.log) in
      let L = length frames in
      let first : sends o.log ≡ take m (plan period L) = sym (take-append_seam (sends o.log) (ahead k.fuel o.at)) ∙ ap (take m) k.sent in
      let most : m ≤ length (plan period L) = omega (arith, simp length-append at (ap length k.sent)) in
      record {
        order = λ i h. ap (λ (l : List Sent). get_or l i None) first ∙ get_or-take m (plan period L) i None h ∙ plan-at period L i some (omega arith);
        payloads = ap (map (payload frames)) first ∙ map-take (payload frames) m (plan period L) ∙ ap (take m) (plan-shows period frames);
        back = accepted _ 0 (frees o.log) k.back (omega arith);
        owed = omega (arith, k.owed);
        oldest = simp zero-add at (k.oldest (omega arith));
      }

  -- and no completion comes earlier than its submission
  pub run-timely : (n i : ℕ) → let o = run played least n (begun t stream (length frames) period budget) script in length (frees (take i o.log)) ≤ length (sends (take i o.log))
  run-timely n i = let k = account played played-just least n (length frames) (begun t stream (length frames) period budget) script (omega arith, some) in omega (arith, k.timely i)

  pub run-only-if : OnlyIf stream period frames (run played least budget (begun t stream (length frames) period budget) script)
  run-only-if ok =
      let o = run played least budget (begun t stream (length frames) period budget) script in
      let k = run-through played played-just (λ e. omega arith) false (length frames) least stream period (length frames) budget t script some ok in
      let all = k.out in
      let shows : map (payload frames) (sends o.log) ≡ cut period frames = ap (map (payload frames)) all ∙ plan-shows period frames in
      let count = plan-count period frames in
      let heard = k.heard in
      record {
        out = ap length all ∙ count;
        order = λ i h. rw all (plan-at period (length frames) i some (omega arith));
        heard = heard ∙ count;
        completed = λ i h. k.good i (omega arith);
        timely = k.timely;
        bytes = sym (map-map (λ (p : List ℕ). le 4 stream ++ p) (payload frames) (sends o.log)) ∙ ap (map (λ (p : List ℕ). le 4 stream ++ p)) shows;
        joined = rw shows (cut-joined period frames some);
        exact = λ i h. rw shows (cut-whole period frames i (omega (arith, ap length all)));
      }
