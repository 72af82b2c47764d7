-- The list of its reads, in the layout's order. Assumes nothing.
use Rattle.layout.specs.ChainLaws.Got.{get, end}
use Rattle.ring_store.specs.StoreLaws.{track-got}
use Rattle.ring_store.proofs.store.read_track.Goals as goal

pub returns : goal.returns
returns c =
    track-got c.args.ring.now _ _ _ c.track_of.ensures (get c.get_u64.ensures (get c.get_u64-2.ensures (get c.get_u64-3.ensures (get c.get_u64-4.ensures (get c.get_u64-5.ensures (get c.get_u64-6.ensures (get c.get_u64-7.ensures (get c.get_u64-8.ensures (get c.get_u64-9.ensures (get c.get_u32.ensures (get c.get_u32-2.ensures (get c.get_u64-10.ensures (get c.get_u64-11.ensures end)))))))))))))
    (get c.get_u64-12.ensures (get c.get_u64-13.ensures (get c.get_u32-3.ensures (get c.get_u64-14.ensures end))))
