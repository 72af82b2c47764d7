-- A refusal's number is at least 1, so no refusal is Ok, and below 256, where the C boundary's other answers begin.
-- Assumes nothing.
use Rattle.std.specs.Prelude.{◌≤◌, ◌<◌}
use Rattle.std.proofs.Common.{arith}
use Rattle.codes.specs.Answers.{says_refusal}
use Rattle.codes.specs.declared.answers.Refusal.{Refusal}
use Rattle.codes.specs.declared.answers.Refusal.TheVariants as refusal

pub record Numbered (r : Refusal) : Type 0 where
  pub least : 1 ≤ (says_refusal r).number
  pub small : (says_refusal r).number < 256

pub numbered : (r : Refusal) → Numbered r
numbered refusal.InvalidParam = record { least = omega arith; small = omega arith }
numbered (refusal.IoError c) = record { least = omega arith; small = omega arith }
numbered (refusal.Unsupported c) = record { least = omega arith; small = omega arith }
numbered refusal.NoInfo = record { least = omega arith; small = omega arith }
numbered refusal.TooMany = record { least = omega arith; small = omega arith }
numbered refusal.WrongToken = record { least = omega arith; small = omega arith }
numbered refusal.QueueFailed = record { least = omega arith; small = omega arith }
numbered refusal.Busy = record { least = omega arith; small = omega arith }
numbered refusal.OutOfTurns = record { least = omega arith; small = omega arith }
numbered refusal.BadLength = record { least = omega arith; small = omega arith }
numbered refusal.Short = record { least = omega arith; small = omega arith }
numbered refusal.BadState = record { least = omega arith; small = omega arith }
numbered refusal.Full = record { least = omega arith; small = omega arith }
numbered refusal.NotYet = record { least = omega arith; small = omega arith }
numbered refusal.BadCapture = record { least = omega arith; small = omega arith }
