-- A transfer that the model device plays: what a turn offers goes to the device, and the status that it gives back is that turn's reading.
-- Each step is what the contracts of `next_offer`, `offered`, `transfer` and `turn` say.
-- Assumes nothing.
use Rattle.std.specs.Prelude.{ℕ, List, [], ◌++◌, length, replicate, Result, Ok, Err, Some, None}
use Rattle.layout.specs.Bytes.{le, num_at}
use Rattle.turns.specs.Calls.{offer_call, shown_by}
use Rattle.turns.specs.Log.{Told, Ran, loop, called}
use Rattle.codes.specs.declared.answers.Refusal.{Refusal}
use Rattle.turns.specs.Types.{Sent}
use Rattle.model.specs.Transfer.{transfer_call}
use Rattle.worked.specs.Types.{Ring, Reading, Device, completion}

-- the driver's ring and the device
pub record Desk : Type 0 where
  pub ring : Ring
  pub device : Device

-- what comes back: the reading, and the device as it is then
pub record Comes : Type 0 where
  pub reading : Reading
  pub device : Device

-- a period that is offered in a slot is played at once, and completed with the status in the device's 8 bytes; without an offer the reading is quiet
abbrev pub comes_of : Result Sent Refusal → Device → List ℕ → Comes
comes_of (Ok (Some p)) d request =
    let g = transfer_call d request (replicate 8 0) in
    record { reading = completion p.slot (num_at 0 4 g.lent); device = g.answered.device }
comes_of (Ok None) d request = record { reading = None; device = d }
comes_of (Err r) d request = record { reading = None; device = d }

-- ONE TURN. What is handed over is the stream id, 4 bytes little-endian, and then that part of the frames which the offer shows
abbrev pub turn_at : List ℕ → Desk → Told Desk
turn_at frames x =
    let o = offer_call x.ring.track (length frames) in
    let g = comes_of o x.device (le 4 x.ring.track.stream ++ shown_by o frames) in
    let u = called (length frames) x.ring g.reading in
    record { left = record { ring = u.left; device = g.device }; line = u.line }

-- TURN AFTER TURN, at most budget of them: the loop of `turns`, with its readings from the device and none from a script
abbrev pub attended : List ℕ → ℕ → Ring → Device → Ran Desk
attended frames budget r d = loop (λ x _. turn_at frames x) budget (record { ring = r; device = d }) []
