-- WHAT WAS HEARD BEFORE A FAILURE (2026-13): of a start that goes on and the turns after it, where the transfer ended or ran on.
-- k is the number of its good completions, which the ring tells (`Ring::accepted`); it is still told after draining.
-- Assumes nothing.
use Rattle.std.specs.Prelude.{ℕ, ◌+◌, ◌*◌, ◌%◌, ◌≤◌, ◌<◌, ◌≡◌, refl, Bool, false, ◌&&◌, List, [], ◌∷◌, map, eqb, length, get_or, take, drop, None, Some}
use Rattle.std.proofs.Common.{arith, ap, sym, ◌∙◌, eq-eqb, ne_eqb}
use Rattle.codes.specs.Says.{says, pick, guard}
use Rattle.codes.specs.SaysLaws.{passes}
use Rattle.codes.specs.declared.answers.Refusal.{Refusal}
use Rattle.turns.specs.Cut.{cut, join, span_of, payload}
use Rattle.turns.specs.CutLaws.{cut-first}
use Rattle.turns.specs.Ring.{direct, new_ring, blank_slot, says_said}
use Rattle.turns.specs.Rules.{choose_of, played_of, is_oldest, judge_of, turn_of, counted_of}
use Rattle.turns.specs.Consistent.{placed_of, paced_of}
use Rattle.turns.specs.Calls.{start_call, started_of, traced_call, drain_call}
use Rattle.turns.specs.Reads.{accepted_read}
use Rattle.turns.specs.Log.{Ran, loop_of, turn_by_turn, sends, frees}
use Rattle.turns.specs.Script.{script_of, transfer_of}
use Rattle.turns.specs.Asked.{starts, plays, Accounted, Carried}
use Rattle.turns.specs.ConsistentLaws.{Consistent, consistent-true}
use Rattle.turns.specs.Demand.{accounted-so-far, ok-only-if, start-refusal}
use Rattle.turns.specs.DemandLaws.{some, plays-ends, plays-carried, script-plays}
use Rattle.turns.specs.Drained.{drain_oldest, drains, drains-to-idle}
use Rattle.turns.specs.HeardLaws.{goods, heard_all, accepted-good, failing-next, payload-at, payloads-first, within, plays-counts, drain-keeps-count}
use Rattle.turns.specs.Types.{Slot, Ring, Sent, Heard, Said, Going, Done, Refused, Reading, Transferred, completion, freed_slot, sent_period}

-- k, "after k good completions"
abbrev pub spoken : Ran Ring → ℕ
spoken h = h.at.track.good

-- "the failing one": one where the answer is 2; for WrongToken and OutOfTurns, and while it goes on, and after Ok, "the same without the failing one"
abbrev pub failed : Ran Ring → ℕ
failed h = pick (eqb (says_said h.said).number 2) 1 0

-- the i-th period of some frames, as a slot carries it, and the bytes that a slot shows
abbrev pub span_at : ℕ → List ℕ → ℕ → Slot
span_at period frames i = record { offset = i * period; len = span_of period (length frames) (i * period) }

abbrev pub shows : List ℕ → Slot → List ℕ
shows frames s = take s.len (drop s.offset frames)

-- read off the log: a submission was accepted where the completion at its place names its slot with 0x8000
abbrev pub completes_good : Sent → Heard → Bool
completes_good (Some p) (Some f) = eqb f.slot p.slot && eqb f.status 0x8000
completes_good (Some p) None = false
completes_good None h = false

-- the payloads that were accepted, submission by submission and completion by completion
abbrev pub accepted_payloads : List ℕ → List Sent → List Heard → List (List ℕ)
accepted_payloads frames [] hs = []
accepted_payloads frames (s ∷ ss) [] = []
accepted_payloads frames (s ∷ ss) (h ∷ hs) = pick (completes_good s h) (payload frames s ∷ accepted_payloads frames ss hs) (accepted_payloads frames ss hs)

pub record HeardOut (period : ℕ) (frames : List ℕ) (h : Ran Ring) : Type 0 where
  -- k is what the ring tells
  pub told : accepted_read h.at.track ≡ says 0 (spoken h ∷ [])
  -- "the accepted payloads are exactly the first k periods": the first k completions are good, the i-th names the slot of the i-th submission
  pub accepted : map (payload frames) (take (spoken h) (sends h.log)) ≡ take (spoken h) (cut period frames)
  pub good : (i : ℕ) → i < spoken h → get_or (frees h.log) i None ≡ freed_slot (i % 32) 0x8000
  pub order : (i : ℕ) → i < length (sends h.log) → get_or (sends h.log) i None ≡ sent_period (i % 32) (i * period) (span_of period (length frames) (i * period))
  -- "how much was spoken": joined they are the first k * period bytes, or all the frames where these are shorter
  pub bytes : join (map (payload frames) (take (spoken h) (sends h.log))) ≡ take (spoken h * period) frames
  -- "the failing one is the next": the completion after these names the slot of the next submission, whose payload is the next period, with another status
  pub failing : (says_said h.said).number ≡ 2 → (spoken h < length (sends h.log))
      × (payload frames (get_or (sends h.log) (spoken h) None) ≡ get_or (cut period frames) (spoken h) [])
      × ((status : ℕ) × (get_or (frees h.log) (spoken h) None ≡ freed_slot (spoken h % 32) status) × (status ≡ 0x8000 → ⊥))
  -- there is no other completion
  pub heard : length (frees h.log) ≡ spoken h + failed h
  -- "and those still owed follow it without a gap": the j-th in flight, from the oldest on, carries period k + j behind the failing one
  pub owed : (j : ℕ) → j < h.at.track.inflight → let i = spoken h + failed h + j in
      let s = get_or h.at.slots ((h.at.track.tail + j) % 32) blank_slot in (s ≡ span_at period frames i) × (shows frames s ≡ get_or (cut period frames) i [])
  -- and these are all that went out, of the periods that there are
  pub all : length (sends h.log) ≡ spoken h + failed h + h.at.track.inflight
  pub within : length (sends h.log) ≤ length (cut period frames)

failed-two : (h : Ran Ring) → (says_said h.said).number ≡ 2 → failed h ≡ 1
failed-two h e = rw (eq-eqb (says_said h.said).number 2 e)

failed-not : (h : Ran Ring) → ((says_said h.said).number ≡ 2 → ⊥) → failed h ≡ 0
failed-not h n = rw (ne_eqb (says_said h.said).number 2 n)

heard-by : (period : ℕ) (frames : List ℕ) (h : Ran Ring) → 0 < period → Consistent h.at.track → (a : Accounted period frames h.said h.at.track h.log) → h.at.track.good ≡ goods (frees h.log) → Carried period frames h
    → HeardOut period frames h
heard-by period frames h some sound a count c =
    let n = heard_all period frames h a count (failed h) (failed-two h) (failed-not h) in
    let whole : length (sends h.log) ≡ spoken h + failed h + h.at.track.inflight = omega (arith, a.owed) in
    let shown = payload-at period frames h a count in
    let first = payloads-first period frames h a count (spoken h) (omega arith) in
    record {
      told = sym (passes _ _ _ (consistent-true h.at.track sound) refl);
      accepted = first;
      bytes = ap join first ∙ cut-first period frames some (spoken h);
      good = accepted-good period frames h a count;
      order = a.order;
      failing = λ two. let f = failed-two h two in let next : spoken h < length (sends h.log) = omega arith in (next, shown (spoken h) next, failing-next period frames h a count two);
      heard = n;
      owed = λ j b.
          let i = spoken h + failed h + j in
          let out : i < length (sends h.log) = omega arith in
          let slot : (h.at.track.tail + j) % 32 ≡ i % 32 = omega (arith, a.oldest) in
          let is : get_or h.at.slots ((h.at.track.tail + j) % 32) blank_slot ≡ span_at period frames i = ap (λ (q : ℕ). get_or h.at.slots q blank_slot) slot ∙ c i (omega arith) out in
          (is, ap (shows frames) is ∙ sym (ap (payload frames) (a.order i out)) ∙ shown i out);
      all = whole;
      within = within period frames h a count;
    }

-- ---- THE THEOREM, of a start that goes on: "When a transfer that ran a turn ends with IoError after k good completions, .. the accepted payloads are exactly the first k
-- periods, the failing one is the next, and those still owed follow it without a gap; for WrongToken and OutOfTurns the same without the failing one."
module _ (r : Ring) (stream period budget : ℕ) (frames : List ℕ) (script : List Reading) (began : (starts r stream period budget frames).said ≡ Going) (size : length r.slots ≡ 32) where
  -- after every number of turns
  pub heard-so-far : (n : ℕ) → HeardOut period frames (turn_by_turn (length frames) n (starts r stream period budget frames).ring script)
  heard-so-far n =
      heard-by period frames (turn_by_turn (length frames) n (starts r stream period budget frames).ring script) (some r stream period budget frames script began)
      (plays-ends r stream period budget frames script began n).consistent (accounted-so-far r stream period budget frames script began n)
      (plays-counts r stream period budget frames script began n) (plays-carried r stream period budget frames script began size n)

  -- and so of a transfer however it ended
  pub heard-out : HeardOut period frames (plays r stream period budget frames script)
  heard-out = heard-so-far budget

  -- after Ok: all n
  pub ok-heard-all : (plays r stream period budget frames script).said ≡ Done → spoken (plays r stream period budget frames script) ≡ length (cut period frames)
  ok-heard-all ok =
      let h = plays r stream period budget frames script in
      let none = failed-not h (λ e. let z = ap (λ (s : Said). (says_said s).number) ok in omega arith) in
      omega (arith, heard-out.heard, (ok-only-if r stream period budget frames script began ok).heard)

-- the ring and the answer of a transfer over a script of whole readings are those of these turns
pub heard-script : (r : Ring) (stream period budget : ℕ) (frames bytes : List ℕ) → length bytes % 12 ≡ 0 → (starts r stream period budget frames).said ≡ Going →
    let d = transfer_of r stream (length frames) period budget bytes in
    let h = plays r stream period budget frames (script_of bytes) in (d.ring ≡ h.at) × (d.said ≡ h.said)
heard-script r stream period budget frames bytes whole began =
    let same = sym (script-plays r stream period budget frames bytes whole began) in
    (ap (λ (d : Transferred). d.ring) same, ap (λ (d : Transferred). d.said) same)

-- ---- k CAN STILL BE READ: draining and a start that is refused leave it

pub drains-keep-count : (r : Ring) (statuses : List ℕ) → (drains r statuses).at.track.good ≡ r.track.good
drains-keep-count r [] = refl
drains-keep-count r (status ∷ statuses) = drains-keep-count (drain_oldest r status).ring statuses ∙ drain-keeps-count r.track (completion r.track.tail status)

pub told-after-draining : (r : Ring) (statuses : List ℕ) → Consistent r.track → r.track.running ≡ false → r.track.inflight ≡ length statuses
    → says 0 (r.track.good ∷ []) ≡ accepted_read (drains r statuses).at.track
told-after-draining r statuses c off k = passes _ _ _ (drains-to-idle r statuses c off k).1.consistent (ap (λ (n : ℕ). says 0 (n ∷ [])) (sym (drains-keep-count r statuses)))

pub refused-start-keeps-count : (r : Ring) (x : Refusal) (stream total period budget : ℕ) → let u = started_of r (start_call r.track stream total period budget) in
    u.said ≡ Refused x → u.ring.track.good ≡ r.track.good
refused-start-keeps-count r x stream total period budget e = ap (λ (q : Ring). q.track.good) (start-refusal r x stream total period budget e)

-- ---- INSTANCES, three periods. The second completion has 0x8001: one was spoken, the second failed, the third is owed; one is told, also after draining

abbrev ten : List ℕ
ten = 10 ∷ 11 ∷ 12 ∷ 13 ∷ 14 ∷ 15 ∷ 16 ∷ 17 ∷ 18 ∷ 19 ∷ []

abbrev plays_ten : ℕ → List Reading → Ran Ring
plays_ten budget script = plays (new_ring direct) 0 4 budget ten script

-- the bytes that the j-th slot in flight carries, from the oldest on
abbrev owes : Ran Ring → ℕ → List ℕ
owes h j = shows ten (get_or h.at.slots ((h.at.track.tail + j) % 32) blank_slot)

abbrev pub broken_off : Ran Ring
broken_off = plays_ten 9 (completion 0 0x8000 ∷ None ∷ completion 1 0x8001 ∷ [])

pub one_of_three : ((says_said broken_off.said).number ≡ 2) × (spoken broken_off ≡ 1) × (failed broken_off ≡ 1) × (broken_off.at.track.inflight ≡ 1)
    × (sends broken_off.log ≡ sent_period 0 0 4 ∷ sent_period 1 4 4 ∷ sent_period 2 8 2 ∷ []) × (frees broken_off.log ≡ freed_slot 0 0x8000 ∷ freed_slot 1 0x8001 ∷ []) × (owes broken_off 0 ≡ 18 ∷ 19 ∷ [])
    × (accepted_read broken_off.at.track ≡ says 0 (1 ∷ [])) × (accepted_read (drains broken_off.at (0x8000 ∷ [])).at.track ≡ says 0 (1 ∷ []))
unfolding loop_of start_call traced_call drain_call guard placed_of paced_of turn_of choose_of played_of is_oldest judge_of counted_of
one_of_three = (refl, refl, refl, refl, refl, refl, refl, refl, refl)

-- a wrong token in its place, and a budget of two turns: none failed, and the second is the oldest that is owed
abbrev pub wrong_token : Ran Ring
wrong_token = plays_ten 9 (completion 0 0x8000 ∷ None ∷ completion 5 0x8001 ∷ [])

abbrev pub spent : Ran Ring
spent = plays_ten 2 (completion 0 0x8000 ∷ [])

pub none-failed : ((says_said wrong_token.said).number ≡ 6) × (spoken wrong_token ≡ 1) × (failed wrong_token ≡ 0) × (wrong_token.at.track.inflight ≡ 2)
    × (owes wrong_token 0 ≡ 14 ∷ 15 ∷ 16 ∷ 17 ∷ []) × (owes wrong_token 1 ≡ 18 ∷ 19 ∷ [])
    × ((says_said spent.said).number ≡ 9) × (spoken spent ≡ 1) × (failed spent ≡ 0) × (spent.at.track.inflight ≡ 1) × (owes spent 0 ≡ 14 ∷ 15 ∷ 16 ∷ 17 ∷ [])
unfolding loop_of start_call traced_call guard placed_of paced_of turn_of choose_of played_of is_oldest judge_of counted_of
none-failed = (refl, refl, refl, refl, refl, refl, refl, refl, refl, refl, refl)
