-- `exchange::effect::move_to` meets its contract: without the guard, and past the last stream, nothing moves. Assumes nothing.
use Rattle.std.proofs.Common.{◌≡◌, length, set, sym, ◌∙◌, arith, rules}
use lib.Seq.{set_out}
use borrow.Author.Tests.{not-true, not-false}
use Rattle.codes.specs.SaysLaws.{picks, skips}
use Rattle.exchange.proofs.effect.move_to.Goals as goal

pub returns-then-not-guard : goal.returns-then-not-guard
returns-then-not-guard c = let a = c.args in sym (skips a.guard (set a.old a.stream a.life) a.old (not-true _ c.if-not-guard.true-raw))

pub returns-then-i-ge127 : goal.returns-then-i-ge127
returns-then-i-ge127 c =
    let a = c.args in
    let n : length a.old ≡ 127 = search rules in
    sym (picks a.guard (set a.old a.stream a.life) a.old (not-false _ c.if-not-guard.false-raw) ∙ set_out a.old a.stream a.life (omega arith))

pub returns : goal.returns
returns c = let a = c.args in sym (picks a.guard (set a.old a.stream a.life) a.old (not-false _ c.if-not-guard.false-raw))
