-- The loop stands where the definition's loop stands. Assumes nothing.
use lib.ListN.{length}
use Rattle.turns.specs.ScriptLaws.{Hosts}
use Rattle.turns.proofs.script.turn_by_turn.Given as goal

abbrev pub invariant-loop-n : goal.invariant-loop-n
invariant-loop-n l = Hosts (length l.frames) l.budget l.initial.ring l.script l.ring l.n
