-- `layout::put_bytes` meets its contract: past the end, within the slice, or across its end. Assumes nothing.
use Rattle.std.proofs.Common.{rules, sym, ◌∙◌, ◌≤◌, ◌+◌, ◌-◌, length, arith}
use Rattle.layout.specs.StoreLaws.{sets-out, sets-cut}
use Rattle.layout.proofs.put_bytes.Goals as goal

pub returns-then-n-at : goal.returns-then-n-at
returns-then-n-at c = let a = c.args in sym (sets-out a.from.now a.out.now a.at (search rules))

pub returns : goal.returns
returns c =
    let a = c.args in
    let n = length a.out.now - a.at in
    let long : n ≤ length a.from.now = omega (arith, c.if-from-room.false) in
    let past : length a.out.now ≤ a.at + n = omega arith in
    c.copy-2.ensures ∙ sets-cut a.out.now a.from.now a.at n past long
