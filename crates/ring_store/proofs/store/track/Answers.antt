-- By the store's length. Assumes nothing.
use Rattle.std.proofs.Common.{ap, ◌∙◌}
use Rattle.ring_store.specs.Store.{track_at}
use Rattle.ring_store.specs.StoreLaws.{track-front}
use Rattle.ring_store.proofs.store.track.Goals as goal

pub returns-in-Some : goal.returns-in-Some
returns-in-Some c = c.read_track.ensures ∙ ap track_at c.in-Some.ensures.cases.same ∙ track-front c.args.ring.now
