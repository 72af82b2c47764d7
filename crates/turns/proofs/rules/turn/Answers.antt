-- Rule 1 by the cases of its choice, then rule 2. Assumes nothing.
use borrow.Author.Rules.{rules}
use native.Mathlib.Omega.{arith}
use Rattle.turns.specs.ConsistentLaws.{few-slots}
use Rattle.turns.specs.DecisionLaws.{tail-stays, good-stays}
use Rattle.turns.specs.Rules.{turn_of}
use Rattle.turns.proofs.rules.turn.Goals as goal

pub submit-fuller-requires : goal.submit-fuller-requires
submit-fuller-requires c = let p = few-slots _ c.requires.0 in omega arith

pub hear-requires : goal.hear-requires
hear-requires c = (search (rules, tail-stays), search (rules, good-stays))

pub returns-in-Submit : goal.returns-in-Submit
unfolding turn_of
returns-in-Submit c =
    rw (
      c.hear.ensures,
      c.submit-fuller.ensures,
      c.outgoing-sent.ensures,
      ← c.choose-choice.ensures,
      c.in-Submit.is,
    )

pub returns-in-Finish : goal.returns-in-Finish
unfolding turn_of
returns-in-Finish c = rw (← c.choose-choice.ensures, c.in-Finish.is)

pub returns-in-Wait : goal.returns-in-Wait
unfolding turn_of
returns-in-Wait c = rw (c.hear-in-Wait.ensures, ← c.choose-choice.ensures, c.in-Wait.is)
