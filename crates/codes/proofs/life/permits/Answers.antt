-- `codes::life::permits` meets its contract: a command stands at its place in its state's row. Assumes nothing.
use mathlib.Core.Path.{sym}
use Rattle.codes.specs.LifeLaws.{permitted, no-state, no-command}
use Rattle.codes.proofs.life.permits.Goals as goal

pub returns-then-life-ge5 : goal.returns-then-life-ge5
returns-then-life-ge5 c = sym (no-state _ _ c.if-life-ge5.true)

pub returns-then-command-ge5 : goal.returns-then-command-ge5
returns-then-command-ge5 c = sym (no-command _ _ c.if-life-ge5.false c.if-command-ge5.true)

pub returns : goal.returns
returns c = permitted _ _ c.if-life-ge5.false c.if-command-ge5.false
