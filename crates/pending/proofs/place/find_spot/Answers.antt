-- `pending::place::find_spot` meets its contract: a chain of tests. Assumes nothing.
use Rattle.pending.specs.CallLaws.{spot-odd, spot-short, spot-full, spot-place}
use Rattle.pending.proofs.place.find_spot.Goals as goal

pub returns-then-payload-whole : goal.returns-then-payload-whole
returns-then-payload-whole c =
    let a = c.args in
    spot-odd a.places a.k a.payload a.store a.period _ c.place_size-size.ensures c.if-payload-whole.true

pub returns-then-size-whole : goal.returns-then-size-whole
returns-then-size-whole c =
    let a = c.args in
    spot-short a.places a.k a.payload a.store a.period _ c.place_size-size.ensures c.if-payload-whole.false c.if-size-whole.true

pub returns-then-places-k : goal.returns-then-places-k
returns-then-places-k c =
    let a = c.args in
    spot-full a.places a.k a.payload a.store a.period _ c.place_size-size.ensures c.if-payload-whole.false c.if-size-whole.false c.if-places-k.true

pub returns : goal.returns
returns c =
    let a = c.args in
    spot-place a.places a.k a.payload a.store a.period _ c.place_size-size.ensures c.if-payload-whole.false c.if-size-whole.false c.if-places-k.false
