-- After i turns i slots are blank. Assumes nothing.
use mathlib.Core.Path.{◌≡◌}
use lib.ListN.{take}
use lib.Seq.{sets}
use Rattle.layout.specs.Rows.{rows_bytes}
use Rattle.ring_store.specs.Store.{track_size, slot_bytes}
use Rattle.ring_store.specs.StoreLaws.{blanks}
use Rattle.ring_store.proofs.store.put_blanks.Given as goal

abbrev pub invariant-loop-i : goal.invariant-loop-i
invariant-loop-i l = l.ring ≡ sets l.initial.ring track_size (rows_bytes slot_bytes (take l.i blanks))
