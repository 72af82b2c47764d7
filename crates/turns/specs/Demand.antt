-- DEMAND 3, both halves: of a start and then turns, and of a transfer over a script. Then what the auditor asks, however a transfer ends.
-- The start is `starts`, the turns after it `plays`, the premises and `Whole`, `Accounted`, `Carried` stand in Asked.
-- Assumes nothing.
use Rattle.std.specs.Prelude.{ℕ, ◌+◌, ◌*◌, ◌%◌, ◌≤◌, ◌<◌, ◌≡◌, List, length, take, Ok, Err, None}
use Rattle.std.proofs.Common.{arith, ap, sym, ◌∙◌, subst}
use Rattle.turns.specs.Ring.{direct, indirect, most_of}
use Rattle.turns.specs.Rules.{choose_of}
use Rattle.turns.specs.DecisionLaws.{waits-full}
use Rattle.codes.specs.declared.answers.Refusal.{Refusal}
use Rattle.layout.specs.All.{All}
use Rattle.turns.specs.Cut.{cut}
use Rattle.turns.specs.Calls.{refused_of, traced_call, turn_call, drain_call, start_call, turned_of, started_of, offer_call}
use Rattle.turns.specs.Log.{turn_by_turn, sends, frees}
use Rattle.turns.specs.Script.{script_of, transfer_of}
use Rattle.turns.specs.Asked.{starts, plays, NoFault, CompletesWithin, Idle, Whole, Accounted, Carried, AtMost, AtMostTen}
use Rattle.turns.specs.ConsistentLaws.{consistent-facts}
use Rattle.turns.specs.HostLaws.{goes}
use Rattle.turns.specs.RefusalLaws.{turn-refused, drain-refused, start-refused, ring-untouched, offered}
use Rattle.turns.specs.DemandLaws.{loop-length, plays-in-time, plays-only-if, plays-accounted, plays-timely, plays-ends, plays-most, plays-carried, script-plays, script-ok, script-within, script-answers}
use Rattle.turns.specs.Types.{Track, Ring, Sent, Going, Done, Refused, Reading, Wait, Transferred}

-- "Take a state and ring that calls left, .. no exchange or transfer open, nothing in flight, and frames that make n periods. If no turn reports a
-- wrong token or a status other than 0x8000, and among any g turns running (g at least 1), each with something in flight at its reading, one reports
-- a completion, then the transfer answers Ok no later than turn n times g plus 1, given a turn budget of at least that."
pub ok-in-time : (r : Ring) (stream period budget g : ℕ) (frames : List ℕ) (script : List Reading) → Idle r → 0 < period → 0 < g → length (cut period frames) * g + 1 ≤ budget
    → ((starts r stream period budget frames).said ≡ Going)
    × (All NoFault (plays r stream period budget frames script).log
    → CompletesWithin g (plays r stream period budget frames script).log
    → ((plays r stream period budget frames script).said ≡ Done) × (length (plays r stream period budget frames script).log ≤ length (cut period frames) * g + 1))
ok-in-time r stream period budget g frames script idle some pos enough =
    let began = sym (goes r.track stream (length frames) period budget (consistent-facts r.track idle.consistent) idle.stopped idle.empty some (omega arith)) in
    (began, plays-in-time r stream period budget frames script began g pos enough)

-- "With no premise about the queue: Ok is answered only if all n periods went out in order, each was completed with 0x8000, their payloads joined
-- equal the frames, and each but the last is exactly period_bytes long."
pub ok-only-if : (r : Ring) (stream period budget : ℕ) (frames : List ℕ) (script : List Reading) → (starts r stream period budget frames).said ≡ Going
    → (plays r stream period budget frames script).said ≡ Done
    → Whole stream period frames (plays r stream period budget frames script).log
ok-only-if r stream period budget frames script began = plays-only-if r stream period budget frames script began

-- the same of a transfer over a script of whole readings: what it says, and the number of its turns
pub ok-in-time-script : (r : Ring) (stream period budget g : ℕ) (frames bytes : List ℕ) → Idle r → 0 < period → 0 < g → length (cut period frames) * g + 1 ≤ budget → length bytes % 12 ≡ 0
    → All NoFault (plays r stream period budget frames (script_of bytes)).log
    → CompletesWithin g (plays r stream period budget frames (script_of bytes)).log
    → ((transfer_of r stream (length frames) period budget bytes).said ≡ Done) × ((transfer_of r stream (length frames) period budget bytes).turns ≤ length (cut period frames) * g + 1)
ok-in-time-script r stream period budget g frames bytes idle some pos enough whole right every =
    let half = ok-in-time r stream period budget g frames (script_of bytes) idle some pos enough in
    let got = half.1 right every in
    let same = script-plays r stream period budget frames bytes whole half.0 in
    (sym (ap (λ (d : Transferred). d.said) same) ∙ got.0, rw (sym (ap (λ (d : Transferred). d.turns) same)) got.1)

pub ok-only-if-script : (r : Ring) (stream period budget : ℕ) (frames bytes : List ℕ) → (transfer_of r stream (length frames) period budget bytes).said ≡ Done
    → Whole stream period frames (plays r stream period budget frames (script_of bytes)).log
ok-only-if-script r stream period budget frames bytes ok =
    let b = script-ok r stream period budget frames bytes ok in
    ok-only-if r stream period budget frames (script_of bytes) b.0 b.1

-- ---- "how long may the console sit inside one announcement?" At most budget turns
pub turns-within-budget : (r : Ring) (stream period budget : ℕ) (frames bytes : List ℕ) (script : List Reading)
    → (length (plays r stream period budget frames script).log ≤ budget) × ((transfer_of r stream (length frames) period budget bytes).turns ≤ budget)
turns-within-budget r stream period budget frames bytes script = (loop-length None _ budget _ script, script-within r stream period budget frames bytes)

-- a transfer over a script comes to an answer
pub always-answers-script : (r : Ring) (stream period budget : ℕ) (frames bytes : List ℕ) → (transfer_of r stream (length frames) period budget bytes).said ≡ Going → ⊥
always-answers-script r stream period budget frames bytes = script-answers r stream period budget frames bytes

-- ---- of a start that goes on, and the turns after it. A line of the log submits one period at most by its type: `sent` is Nothing or a Period
module _ (r : Ring) (stream period budget : ℕ) (frames : List ℕ) (script : List Reading) (began : (starts r stream period budget frames).said ≡ Going) where
  -- there is an answer, and the ring's count is the number of turns run
  pub always-answers : (plays r stream period budget frames script).said ≡ Going → ⊥
  always-answers = (plays-ends r stream period budget frames script began budget).answered (omega arith)

  pub turns-counted : (plays r stream period budget frames script).at.track.turns ≡ length (plays r stream period budget frames script).log
  turns-counted = (plays-ends r stream period budget frames script began budget).after.1 ∙ omega arith

  -- the ring tells the started stream at every turn: this is the number that the host puts before each period
  pub stream-told : (k : ℕ) → (turn_by_turn (length frames) k (starts r stream period budget frames).ring script).at.track.stream ≡ stream
  stream-told k = ap (λ (z : ℕ × ℕ × ℕ × ℕ × ℕ). z.1) (plays-ends r stream period budget frames script began k).after.0

  -- "which bytes did the device accept?" After every number of turns, so also where the console was reset in between: the first periods, in order,
  -- as many as were completed with 0x8000
  pub accounted-so-far : (k : ℕ) → let h = turn_by_turn (length frames) k (starts r stream period budget frames).ring script in Accounted period frames h.said h.at.track h.log
  accounted-so-far = plays-accounted r stream period budget frames script began

  -- and so of a transfer however it ended
  pub accounted : let h = plays r stream period budget frames script in Accounted period frames h.said h.at.track h.log
  accounted = accounted-so-far budget

  -- and no completion came earlier than its submission
  pub timely-so-far : (k i : ℕ) → let h = turn_by_turn (length frames) k (starts r stream period budget frames).ring script in length (frees (take i h.log)) ≤ length (sends (take i h.log))
  timely-so-far = plays-timely r stream period budget frames script began

  -- in flight is what was submitted and not completed, and their slots carry just these periods
  pub owed-exactly : length r.slots ≡ 32
      → let h = plays r stream period budget frames script in (length (sends h.log) ≡ length (frees h.log) + h.at.track.inflight) × Carried period frames h
  owed-exactly size = (accounted.owed, plays-carried r stream period budget frames script began size budget)

  -- "32 may be in flight", or 10 where none is indirect: after k turns, for every k, and at every reading
  pub most-in-flight : (k : ℕ) → let h = turn_by_turn (length frames) k (starts r stream period budget frames).ring script in
      (h.at.track.inflight ≤ most_of r.track.descriptors) × All (AtMost (most_of r.track.descriptors)) h.log
  most-in-flight = plays-most r stream period budget frames script began

  -- "At most 10 are in flight"
  pub ten-at-most : r.track.descriptors ≡ direct → (k : ℕ) → let h = turn_by_turn (length frames) k (starts r stream period budget frames).ring script in (h.at.track.inflight ≤ 10) × All AtMostTen h.log
  ten-at-most e k =
      subst (λ (d : ℕ). let h = turn_by_turn (length frames) k (starts r stream period budget frames).ring script in (h.at.track.inflight ≤ most_of d) × All (AtMost (most_of d)) h.log) e (most-in-flight k)

-- "head equals tail when empty and when full": nothing is inferred from it, and a ring that is full is not done
pub full-is-not-done : (t : Track) → t.descriptors ≡ indirect → t.inflight ≡ 32 → choose_of t.descriptors t ≡ Wait
full-is-not-done t d n = sym (waits-full t.descriptors t (rw (d, n) (omega arith)))

-- ---- a turn submits just what was offered, whatever it reads; and it is refused, changing nothing, where the offer is
pub offered-is-sent : (t : Track) (len : ℕ) (sent : Sent) → offer_call t len ≡ Ok sent → (reading : Reading) → (traced_call t len t.room reading).sent ≡ sent
offered-is-sent t len sent e reading = (offered t len reading).is sent e

pub offered-refused : (t : Track) (len : ℕ) (x : Refusal) → offer_call t len ≡ Err x → (reading : Reading) → traced_call t len t.room reading ≡ refused_of x t
offered-refused t len x e reading = (offered t len reading).refused x e

-- ---- a refusal leaves the ring as it was
module _ (r : Ring) (x : Refusal) where
  pub turn-refusal : (len : ℕ) (reading : Reading) → (turned_of r (turn_call r.track len reading)).said ≡ Refused x → (turned_of r (turn_call r.track len reading)).ring ≡ r
  turn-refusal len reading = ring-untouched r _ (turn-refused r.track len reading) x

  pub drain-refusal : (reading : Reading) → (turned_of r (drain_call r.track reading)).said ≡ Refused x → (turned_of r (drain_call r.track reading)).ring ≡ r
  drain-refusal reading = ring-untouched r _ (drain-refused r.track reading) x

  pub start-refusal : (stream total period budget : ℕ) → (started_of r (start_call r.track stream total period budget)).said ≡ Refused x → (started_of r (start_call r.track stream total period budget)).ring ≡ r
  start-refusal stream total period budget = ring-untouched r _ (start-refused r.track stream total period budget) x
