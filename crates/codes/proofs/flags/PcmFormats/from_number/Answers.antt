-- `codes::flags::PcmFormats::from_number` meets its contract: one shift. Assumes nothing.
use native.Mathlib.Omega.{arith}
use borrow.Author.Tests.{lt-ltb, le-ltb}
use Rattle.codes.specs.FlagsLaws.{shifted}
use Rattle.codes.proofs.flags.PcmFormats.from_number.Goals as goal

pub returns-then-n-lt25 : goal.returns-then-n-lt25
returns-then-n-lt25 c = simp (shifted c.args.n (omega arith), lt-ltb _ _ c.if-n-lt25.true)

pub returns-else-n-lt25 : goal.returns-else-n-lt25
returns-else-n-lt25 c = simp (le-ltb _ _ c.if-n-lt25.false)
