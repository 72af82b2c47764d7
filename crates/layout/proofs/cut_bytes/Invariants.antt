-- `layout::cut_bytes` meets its contract: a byte at a time. Assumes nothing.
use Rattle.std.proofs.Common.{◌≡◌, length, take}
use Rattle.layout.specs.Bytes.{bytes_at}
use Rattle.layout.proofs.cut_bytes.Given as goal

abbrev pub invariant-loop-i : goal.invariant-loop-i
invariant-loop-i g l = (length l.bytes ≡ g.row.N) × (take l.i l.bytes ≡ bytes_at 0 l.i l.s)
