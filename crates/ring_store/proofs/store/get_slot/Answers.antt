-- Its two reads, where it is one of the 32. Assumes nothing.
use Rattle.ring_store.specs.StoreLaws.{slot-got, slot-out}
use Rattle.ring_store.proofs.store.get_slot.Goals as goal

pub returns-then-slot-ge-SLOTS : goal.returns-then-slot-ge-SLOTS
returns-then-slot-ge-SLOTS c = let a = c.args in slot-out a.ring.now a.slot c.if-slot-ge-SLOTS.true

pub returns : goal.returns
returns c =
    let a = c.args in
    slot-got a.ring.now a.slot c.if-slot-ge-SLOTS.false c.get_u64-offset.ensures c.get_u64-len.ensures
