-- `model::control::put_rows` meets its contract: each turn writes one record more. Assumes nothing.
use Rattle.std.proofs.Common.{◌≡◌, ◌+◌, ◌*◌, length, take}
use lib.Seq.{sets}
use Rattle.layout.specs.Layout.{size, write}
use Rattle.layout.specs.Rows.{rows_bytes}
use Rattle.model.proofs.control.put_rows.Given as goal

abbrev pub invariant-loop-row : goal.invariant-loop-row
invariant-loop-row g l =
    (l.at ≡ 4 + l.row-index * size g.R.Row.widths)
    × (length l.page ≡ length l.initial.page)
    × (l.page ≡ sets l.initial.page 4 (rows_bytes (λ r. write g.R.Row.widths (g.R.Row.values r)) (take l.row-index l.rows)))
