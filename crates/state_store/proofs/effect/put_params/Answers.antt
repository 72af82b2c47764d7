-- `state_store::effect::put_params` meets its contract: its fields, one after the other. Assumes nothing.
use Rattle.std.proofs.Common.{sym, ◌∙◌, le-ltb, lt-ltb}
use Rattle.codes.specs.SaysLaws.{picks, skips}
use Rattle.state_store.specs.EffectLaws.{params-stored}
use Rattle.state_store.proofs.effect.put_params.Goals as goal

pub returns-then-i-ge127 : goal.returns-then-i-ge127
returns-then-i-ge127 c = let a = c.args in sym (skips _ _ _ (le-ltb a.stream 127 c.if-i-ge127.true))

pub returns : goal.returns
returns c =
    let a = c.args in
    params-stored a.s.now _ _ _ _ _ _ _ _ a.to
    c.put_u8.ensures c.put_u8-2.ensures c.put_u8-3.ensures c.put_u8-4.ensures c.put_u32.ensures c.put_u32-2.ensures c.put_u32-3.ensures
    ∙ sym (picks _ _ _ (lt-ltb a.stream 127 c.if-i-ge127.false))
