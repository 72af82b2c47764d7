-- Its two parts. Assumes nothing.
use mathlib.Core.Path.{ap, ◌∙◌}
use mathlib.Core.List.{List}
use Prim.Native.Nat.{ℕ}
use lib.Seq.{sets}
use Rattle.ring_store.specs.Store.{side_place, side_bytes}
use Rattle.ring_store.proofs.store.put_track.Goals as goal

pub returns : goal.returns
returns c =
    c.put_side.ensures ∙ ap (λ (l : List ℕ). sets l side_place (side_bytes c.args.t)) c.put_front.ensures
