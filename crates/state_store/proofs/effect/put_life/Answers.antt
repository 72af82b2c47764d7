-- `state_store::effect::put_life` meets its contract: without the guard, and past the last stream, nothing moves. Assumes nothing.
use borrow.Author.Tests.{not-true, not-false}
use Rattle.state_store.specs.EffectLaws.{lived-off, lived-out, lived-in}
use Rattle.state_store.proofs.effect.put_life.Goals as goal

pub returns-then-not-guard : goal.returns-then-not-guard
returns-then-not-guard c = let a = c.args in lived-off a.guard a.stream a.life a.s.now (not-true _ c.if-not-guard.true-raw)

pub returns-then-i-ge127 : goal.returns-then-i-ge127
returns-then-i-ge127 c = let a = c.args in lived-out a.guard a.stream a.life a.s.now (not-false _ c.if-not-guard.false-raw) c.if-i-ge127.true

pub returns : goal.returns
returns c =
    let a = c.args in
    lived-in a.guard a.stream a.life a.s.now (not-false _ c.if-not-guard.false-raw) c.if-i-ge127.false c.put_u8.ensures
