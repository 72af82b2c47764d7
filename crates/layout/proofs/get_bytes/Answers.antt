-- `layout::get_bytes` meets its contract: past the end, within the slice, or across its end. Assumes nothing.
use Rattle.std.proofs.Common.{rules, ◌≡◌, ◌≤◌, ◌-◌, ◌∙◌, ℕ, List, sym, ap, subst, length, take, drop, add-zero, length-drop, arith}
use lib.Seq.{take_all}
use Rattle.layout.specs.Bytes.{bytes_at}
use Rattle.layout.specs.BytesLaws.{bytes_at-first, bytes_at-zeros, bytes_at-drop}
use Rattle.layout.proofs.get_bytes.Goals as goal

pub returns-then-s-at : goal.returns-then-s-at
returns-then-s-at g c =
    let a = c.args in
    sym (bytes_at-zeros a.at g.row.N a.s.now (search rules))

rest : (s : List ℕ) (at : ℕ) → take (length s - at) (drop at s) ≡ drop at s
rest s at = let l : length (drop at s) ≡ length s - at = length-drop at s in take_all (length s - at) (drop at s) (omega arith)

pub returns-in-Some : goal.returns-in-Some
returns-in-Some g c =
    let a = c.args in
    let f = c.in-Some.ensures.cases in
    let e = rest a.s.now a.at in
    let h : g.row.N ≤ length (drop a.at a.s.now) = subst (λ (l : List ℕ). g.row.N ≤ length l) e f.enough in
    f.same ∙ ap (take g.row.N) e ∙ sym (bytes_at-first a.at g.row.N a.s.now h)

pub returns : goal.returns
returns g c =
    let a = c.args in
    c.cut_bytes.ensures ∙ ap (bytes_at 0 g.row.N) (rest a.s.now a.at) ∙ bytes_at-drop 0 g.row.N a.at a.s.now ∙ ap (λ (k : ℕ). bytes_at k g.row.N a.s.now) (add-zero a.at)
