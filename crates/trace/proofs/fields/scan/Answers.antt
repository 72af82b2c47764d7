-- An empty trace, or its fields. Assumes nothing.
use mathlib.Core.Path.{refl}
use Rattle.codes.specs.SaysLaws.{passes, stops}
use Rattle.turns.specs.CallLaws.{positive, nought}
use Rattle.trace.specs.Fields.{scan_of}
use Rattle.trace.proofs.fields.scan.Goals as goal

pub returns-then-s-eq0 : goal.returns-then-s-eq0
unfolding scan_of
returns-then-s-eq0 c = stops _ _ _ (nought _ c.if-s-eq0.true) refl

pub returns : goal.returns
unfolding scan_of
returns c = passes _ _ _ (positive _ c.if-s-eq0.false) c.scan_fields.ensures
