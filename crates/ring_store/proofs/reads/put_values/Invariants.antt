-- The values passed stand in the result. Assumes nothing.
use Rattle.std.proofs.Common.{◌≡◌, take}
use Rattle.std.proofs.lemmas.List.Edits.{sets}
use Rattle.ring_store.specs.Calls.{words}
use Rattle.ring_store.proofs.reads.put_values.Given as goal

abbrev pub invariant-loop-i : goal.invariant-loop-i
invariant-loop-i l = l.res ≡ sets l.initial.res 0 (words (take l.i l.values))
