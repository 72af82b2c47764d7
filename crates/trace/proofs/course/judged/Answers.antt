-- 18 over the whole trace, then 19. Assumes nothing.
use mathlib.Core.Path.{refl}
use Rattle.std.proofs.lemmas.Result.{err_from_is_err_and}
use Rattle.trace.specs.CourseLaws.{judges-scanned}
use Rattle.trace.proofs.course.judged.Goals as goal

pub returns-in_err-scan_fields : goal.returns-in_err-scan_fields
returns-in_err-scan_fields c =
    let p = err_from_is_err_and c.from_residual.result c.from_residual.ensures.1 in
    rw (p.1, p.2) (judges-scanned _ _ _ _ c.in_err-scan_fields.ensures refl)

pub returns : goal.returns
returns c = judges-scanned _ _ _ _ c.in_ok-scan_fields.ensures c.opened.ensures
