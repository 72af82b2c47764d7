-- `model::control::put_rows` meets its contract: each turn writes one record more. Assumes nothing.
use Rattle.std.proofs.Common.{◌≡◌, ℕ, ◌+◌, ◌-◌, ◌*◌, List, ◌≤◌, length, take, take_all, refl, ap, ◌∙◌, add-mul, one-mul, mul-le-mul_right, arith}
use lib.Seq.{sets}
use Rattle.layout.specs.Layout.{size, write}
use Rattle.layout.specs.Rows.{rows_bytes}
use borrow.Rule.Slice.PartMut.{mid_of}
use Rattle.records.specs.Slice.{written}
use Rattle.model.specs.PageLaws.{row_more, rows-laid}
use Rattle.model.proofs.control.put_rows.Goals as goal

pub loop-row-init : goal.loop-row-init
unfolding rows_bytes
loop-row-init g c = (omega arith, refl, refl)

pub loop-row-preserved : goal.loop-row-preserved
loop-row-preserved g c =
    let l = c.loop-row in
    let a = c.args in
    let s = size g.R.Row.widths in
    let z : c.SIZE-at.result ≡ s = c.SIZE-at.ensures ∙ g.met.R.Row.sized in
    let m : (l.row-index + 1) * s ≡ l.row-index * s + s = add-mul l.row-index 1 s ∙ ap (λ (k : ℕ). l.row-index * s + k) (one-mul s) in
    let h : (l.row-index + 1) * s ≤ length a.rows.now * s = mul-le-mul_right s (omega arith) in
    let x = c.row-item.result in
    let r = row_more g.R.Row.widths g.R.Row.values a.rows.now x l.row-index l.at c.put_u32.new.out l.page c.put.new.out (omega arith) l.invariant.0 (omega arith) l.invariant.2
    (c.put.ensures ∙ ap (λ (y : g.row.R.Denot). written g.R.Row.widths (g.R.Row.values y) (mid_of l.at (length l.page - l.at) l.page)) c.row-item.is) in
    (omega arith, r.0, r.1)

pub returns : goal.returns
returns g c =
    let l = c.loop-row in
    let a = c.args in
    let n : l.row-index ≡ length a.rows.now = omega arith in
    let e : l.at ≡ 4 + length a.rows.now * size g.R.Row.widths = l.invariant.0 ∙ ap (λ (k : ℕ). 4 + k * size g.R.Row.widths) n in
    let all : take l.row-index a.rows.now ≡ a.rows.now = take_all l.row-index a.rows.now (omega arith) in
    rows-laid g.R.Row.widths g.R.Row.values a.rows.now a.page.now c.put_u32.new.out l.page l.at e (omega arith) c.put_u32.ensures
    (l.invariant.2 ∙ ap (λ (rs : List g.row.R.Denot). sets c.put_u32.new.out 4 (rows_bytes (λ r. write g.R.Row.widths (g.R.Row.values r)) rs)) all)
