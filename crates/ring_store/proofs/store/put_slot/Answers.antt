-- Its two stores, where it is one of the 32. Assumes nothing.
use Rattle.layout.specs.ChainLaws.Stored.{put, end}
use Rattle.ring_store.specs.StoreLaws.{slot-stored, slot-none}
use Rattle.ring_store.proofs.store.put_slot.Goals as goal

pub returns-then-slot-ge-SLOTS : goal.returns-then-slot-ge-SLOTS
returns-then-slot-ge-SLOTS c = slot-none _ _ _ c.if-slot-ge-SLOTS.true

pub returns : goal.returns
returns c =
    let a = c.args in
    slot-stored _ a.ring.now a.slot a.carried c.if-slot-ge-SLOTS.false (put c.put_u64.ensures (put c.put_u64-2.ensures end))
