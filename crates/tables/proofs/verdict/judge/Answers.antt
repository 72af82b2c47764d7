-- `tables::verdict::judge` meets its contract, test by test. Assumes nothing.
use mathlib.Core.Path.{sym, ap, ◌∙◌}
use Prim.Native.Nat.{ℕ}
use Rattle.std.specs.Prelude.{Err}
use lib.Dec.{leb}
use borrow.Author.Rules.{rules}
use borrow.Author.Tests.{le-leb, lt-leb}
use Rattle.codes.specs.SaysLaws.{passed, failed, passes, stops}
use Rattle.codes.specs.StatusesLaws.{header-word}
use Rattle.tables.specs.Tables.{covers, judged}
use Rattle.tables.specs.declared.verdict.Fault.TheVariants.{Status}
use Rattle.tables.proofs.verdict.judge.Goals as goal

pub returns-then-not-long : goal.returns-then-not-long
unfolding judged
returns-then-not-long c = stops _ _ _ (failed c.page_ok-long.ensures c.if-not-long.true-raw) (search rules)

pub returns-then-not-headed : goal.returns-then-not-headed
unfolding judged
returns-then-not-headed c =
    passes _ _ _ (passed c.page_ok-long.ensures c.if-not-long.false-raw) (stops _ _ _ (failed c.covers-headed.ensures c.if-not-headed.true-raw) (search rules))

pub returns-then-not-ok : goal.returns-then-not-ok
unfolding judged
returns-then-not-ok c =
    let h = failed (header-word _ _ c.get_u32-word.ensures c.status_is_ok-ok.ensures) c.if-not-ok.true-raw in
    passes _ _ _ (passed c.page_ok-long.ensures c.if-not-long.false-raw) (passes _ _ _ (passed c.covers-headed.ensures c.if-not-headed.false-raw) (stops _ _ _ h (ap (λ (w : ℕ). Err (Status w)) c.get_u32-word.ensures)))

pub returns-then-bytes-gt4096 : goal.returns-then-bytes-gt4096
unfolding judged
returns-then-bytes-gt4096 c =
    let h = passed (header-word _ _ c.get_u32-word.ensures c.status_is_ok-ok.ensures) c.if-not-ok.false-raw in
    let e = ap (λ (n : ℕ). leb n 4096) c.extent-bytes.ensures in
    passes _ _ _ (passed c.page_ok-long.ensures c.if-not-long.false-raw)
    (passes _ _ _ (passed c.covers-headed.ensures c.if-not-headed.false-raw) (passes _ _ _ h (stops _ _ _ (sym e ∙ lt-leb _ _ c.if-bytes-gt4096.true) (search rules))))

pub returns-then-whole : goal.returns-then-whole
unfolding judged
returns-then-whole c =
    let a = c.args in
    let h = passed (header-word _ _ c.get_u32-word.ensures c.status_is_ok-ok.ensures) c.if-not-ok.false-raw in
    let e = ap (λ (n : ℕ). leb n 4096) c.extent-bytes.ensures in
    let w = sym (ap (covers a.w) c.extent-bytes.ensures) ∙ sym c.covers-whole.ensures ∙ c.if-whole.true in
    passes _ _ _ (passed c.page_ok-long.ensures c.if-not-long.false-raw)
    (passes _ _ _ (passed c.covers-headed.ensures c.if-not-headed.false-raw) (passes _ _ _ h (passes _ _ _ (sym e ∙ le-leb _ _ c.if-bytes-gt4096.false) (passes _ _ _ w (search rules)))))

pub returns-else-whole : goal.returns-else-whole
unfolding judged
returns-else-whole c =
    let a = c.args in
    let h = passed (header-word _ _ c.get_u32-word.ensures c.status_is_ok-ok.ensures) c.if-not-ok.false-raw in
    let e = ap (λ (n : ℕ). leb n 4096) c.extent-bytes.ensures in
    let w = sym (ap (covers a.w) c.extent-bytes.ensures) ∙ sym c.covers-whole.ensures ∙ c.if-whole.false in
    passes _ _ _ (passed c.page_ok-long.ensures c.if-not-long.false-raw)
    (passes _ _ _ (passed c.covers-headed.ensures c.if-not-headed.false-raw) (passes _ _ _ h (passes _ _ _ (sym e ∙ le-leb _ _ c.if-bytes-gt4096.false) (stops _ _ _ w (search rules)))))
