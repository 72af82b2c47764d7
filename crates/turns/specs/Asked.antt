-- What demand 3 takes of a transfer and what it asks, as definitions over its log and its ring.
-- Assumes nothing.
use Rattle.std.specs.Prelude.{ℕ, suc, ◌+◌, ◌*◌, ◌%◌, ◌≤◌, ◌<◌, ◌≡◌, ◌⊎◌, true, false, List, [], ◌∷◌, ◌++◌, map, length, get_or, take, drop, Some, None}
use Rattle.codes.specs.declared.answers.Cause.{Cause}
use Rattle.codes.specs.declared.answers.Cause.TheVariants.{Status}
use Rattle.codes.specs.declared.answers.Refusal.TheVariants.{IoError}
use Rattle.layout.specs.Bytes.{le}
use Rattle.layout.specs.All.{All}
use Rattle.turns.specs.Cut.{cut, join, span_of, payload, message}
use Rattle.turns.specs.Ring.{blank_slot, says_said}
use Rattle.turns.specs.Consistent.{consistent_of}
use Rattle.turns.specs.Calls.{start_call, started_of}
use Rattle.turns.specs.Log.{Line, Ran, turn_by_turn, sends, frees}
use Rattle.turns.specs.Types.{Track, Ring, Heard, Said, Ended, Turned, Reading, completion, freed_slot, sent_period}

-- the start of a transfer on a ring, and the turns after it
abbrev pub starts : Ring → ℕ → ℕ → ℕ → List ℕ → Turned
starts r stream period budget frames = started_of r (start_call r.track stream (length frames) period budget)

abbrev pub plays : Ring → ℕ → ℕ → ℕ → List ℕ → List Reading → Ran Ring
plays r stream period budget frames script = turn_by_turn (length frames) budget (starts r stream period budget frames).ring script

-- ---- what demand 3 takes

abbrev pub Any : {A : Type 0} → (A → Type 0) → List A → Type 0
Any P [] = ⊥
Any P (x ∷ xs) = P x ⊎ Any P xs

-- "a state and ring that calls left, .. no exchange or transfer open, nothing in flight"
pub record Idle (r : Ring) : Type 0 where
  pub consistent : consistent_of r.track ≡ true
  pub stopped : r.track.running ≡ false
  pub empty : r.track.inflight ≡ 0

-- "no turn reports a wrong token or a status other than 0x8000": it says neither 6 nor 2
abbrev pub NoFault : Line → Type 0
NoFault line = ((says_said line.said).number ≡ 6 → ⊥) × ((says_said line.said).number ≡ 2 → ⊥)

-- the same of any judgement of completions: neither 6 nor one of its faults
abbrev pub Faultless : (ℕ → Type 0) → Line → Type 0
Faultless Fault line = ((says_said line.said).number ≡ 6 → ⊥) × (Fault (says_said line.said).number → ⊥)

-- "with something in flight at its reading"
abbrev pub InFlight : Line → Type 0
InFlight line = 0 < line.waiting

abbrev pub Completes : Reading → Type 0
Completes None = ⊥
Completes (Some c) = Unit {0}

-- "reports a completion"
abbrev pub Reports : Line → Type 0
Reports line = Completes line.reading

-- "among any g turns running, each with something in flight at its reading, one reports a completion"
abbrev pub CompletesWithin : ℕ → List Line → Type 0
CompletesWithin g log = (i : ℕ) → i + g ≤ length log → All InFlight (take g (drop i log)) → Any Reports (take g (drop i log))

-- nothing was freed, or what a reading names
abbrev pub NamedBy : Heard → Reading → Type 0
NamedBy None reading = Unit {0}
NamedBy (Some f) reading = reading ≡ completion f.slot f.status

abbrev pub FreesWhatWasRead : Line → Type 0
FreesWhatWasRead line = NamedBy line.heard line.reading

-- a cause is the status of a completion, which is not 0x8000 and whose slot was freed
abbrev pub Explains : Reading → Heard → Cause → Type 0
Explains None heard c = ⊥
Explains (Some c₁) heard c = (heard ≡ freed_slot c₁.slot c₁.status) × (c ≡ Status c₁.status) × (c₁.status ≡ 0x8000 → ⊥)

-- a 2 carries it
abbrev pub CarriesStatus : Said → Reading → Heard → Type 0
CarriesStatus said reading heard = (c : Cause) → said ≡ Ended (IoError c) → Explains reading heard c

abbrev pub LineCarries : Line → Type 0
LineCarries line = CarriesStatus line.said line.reading line.heard

-- ---- what it asks

-- what a log says that played frames whole. n is the number of periods, length (cut period frames)
pub record Whole (stream period : ℕ) (frames : List ℕ) (log : List Line) : Type 0 where
  -- "all n periods went out in order": the i-th at slot i % 32, from byte i * period on
  pub out : length (sends log) ≡ length (cut period frames)
  pub order : (i : ℕ) → i < length (cut period frames) → get_or (sends log) i None ≡ sent_period (i % 32) (i * period) (span_of period (length frames) (i * period))
  -- "each was completed with 0x8000": n completions, the i-th names the slot of the i-th period
  pub heard : length (frees log) ≡ length (cut period frames)
  pub completed : (i : ℕ) → i < length (cut period frames) → get_or (frees log) i None ≡ freed_slot (i % 32) 0x8000
  -- and comes no earlier than its submission: after every turn, completions so far ≤ submissions so far
  pub timely : (k : ℕ) → length (frees (take k log)) ≤ length (sends (take k log))
  -- what the device got, period by period: the stream id that the ring tells (`stream-told`), 4 bytes little-endian, then the period
  pub bytes : map (message stream frames) (sends log) ≡ map (λ p. le 4 stream ++ p) (cut period frames)
  -- "their payloads joined equal the frames"
  pub joined : join (map (payload frames) (sends log)) ≡ frames
  -- "each but the last is exactly period_bytes long"
  pub exact : (i : ℕ) → suc i < length (sends log) → length (get_or (map (payload frames) (sends log)) i []) ≡ period

-- ---- what an auditor asks of a transfer, however it ended

-- after k completions there is none, or a last one with another status than 0x8000 where the answer is 2
abbrev pub Ending : ℕ → ℕ → List Heard → ℕ → Type 0
Ending answer slot back k = ((answer ≡ 2 → ⊥) × (length back ≡ k))
    ⊎ ((answer ≡ 2) × (length back ≡ suc k) × ((status : ℕ) × (get_or back k None ≡ freed_slot ((slot + k) % 32) status) × (status ≡ 0x8000 → ⊥)))

-- completions from a slot on, in order: the first ones accepted with 0x8000
pub record Accepted (answer slot : ℕ) (back : List Heard) : Type 0 where
  pub accepted : ℕ
  pub good : (i : ℕ) → i < accepted → get_or back i None ≡ freed_slot ((slot + i) % 32) 0x8000
  pub end : Ending answer slot back accepted

-- what went out are the first periods in order; what came back is of the first of these; what is in flight is the rest, from slot `completed % 32` on
pub record Accounted (period : ℕ) (frames : List ℕ) (said : Said) (track : Track) (log : List Line) : Type 0 where
  pub order : (i : ℕ) → i < length (sends log) → get_or (sends log) i None ≡ sent_period (i % 32) (i * period) (span_of period (length frames) (i * period))
  pub payloads : map (payload frames) (sends log) ≡ take (length (sends log)) (cut period frames)
  pub back : Accepted (says_said said).number 0 (frees log)
  pub owed : length (sends log) ≡ length (frees log) + track.inflight
  pub oldest : track.tail ≡ length (frees log) % 32

-- the slots of what is in flight carry the periods that went out and were not completed
abbrev pub Carried : ℕ → List ℕ → Ran Ring → Type 0
Carried period frames h = (i : ℕ) → length (frees h.log) ≤ i → i < length (sends h.log)
    → get_or h.at.slots (i % 32) blank_slot ≡ record { offset = i * period; len = span_of period (length frames) (i * period) }

-- no more than so many in flight when a turn looks at its reading
abbrev pub AtMost : ℕ → Line → Type 0
AtMost n line = line.waiting ≤ n

abbrev pub AtMostTen : Line → Type 0
AtMostTen = AtMost 10
