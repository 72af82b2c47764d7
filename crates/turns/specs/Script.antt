-- A script of readings as bytes, and a transfer over one.
-- Assumes nothing.
use Rattle.std.specs.Prelude.{List, ℕ, ◌+◌, ◌/◌, ◌%◌, eqb, length, None}
use Rattle.layout.specs.Bytes.{num_at}
use Rattle.layout.specs.Rows.{rows_at}
use Rattle.codes.specs.Says.{pick, guard}
use Rattle.codes.specs.declared.answers.Refusal.TheVariants.{BadLength}
use Rattle.turns.specs.Calls.{start_call, started_of}
use Rattle.turns.specs.Ring.{goes_on}
use Rattle.turns.specs.Log.{Ran, turn_by_turn}
use Rattle.turns.specs.Types.{Ring, Said, Refused, Reading, Transferred, completion}

-- a reading is a record of 12 bytes: kind 4, slot 4, status 4. Kind 0 is quiet, every other kind is completed
abbrev pub reading_of : ℕ → ℕ → ℕ → Reading
reading_of kind slot status = pick (eqb kind 0) None (completion slot status)

unfoldable pub reading_at : ℕ → List ℕ → Reading
reading_at o s = reading_of (num_at o 4 s) (num_at (o + 4) 4 s) (num_at (o + 8) 4 s)

abbrev pub script_of : List ℕ → List Reading
script_of bytes = rows_at reading_at 12 0 (length bytes / 12) bytes

-- how a loop ended, and the number of turns that were run: the length of its log
abbrev pub transferred_of : Ran Ring → Transferred
transferred_of h = record { ring = h.at; said = h.said; turns = length h.log }

abbrev pub transfer_by : Said → ℕ → ℕ → Ring → List Reading → Transferred
transfer_by said len budget r script = pick (goes_on said) (transferred_of (turn_by_turn len budget r script)) (record { ring = r; said = said; turns = 0 })

-- A TRANSFER OVER A SCRIPT: its start, and then turns until one does not go on. A script that is no whole number of readings gets 10
unfoldable pub transfer_of : Ring → ℕ → ℕ → ℕ → ℕ → List ℕ → Transferred
transfer_of r stream len period budget script =
    let s = started_of r (start_call r.track stream len period budget) in
    guard (eqb (length script % 12) 0) (record { ring = r; said = Refused BadLength; turns = 0 })
    (transfer_by s.said len budget s.ring (script_of script))
