-- The rules' turn, counted, and then what it accepted. Assumes nothing.
use mathlib.Core.Path.{sym, ap, ◌∙◌, subst}
use Prim.Native.Nat.{◌+◌, ◌≤◌}
use Rattle.turns.specs.Rules.{counted_of}
use Rattle.turns.specs.Types.{Step}
use Rattle.turns.specs.KeepLaws.{turns-left, good_left}
use Rattle.turns.specs.CaptureLaws.{keeps-room}
use Rattle.turns.proofs.capture.caught_turn.Goals as goal

pub turn-s-requires : goal.turn-s-requires
turn-s-requires c = let f = c.requires.0 in (f.placed, f.paced.within, good_left _ f c.requires.1)

pub counted-n-requires : goal.counted-n-requires
counted-n-requires c = turns-left _ _ _ _ _ c.turn-s.ensures c.requires.0 c.requires.1

pub payload_for-payload-requires : goal.payload_for-payload-requires
payload_for-payload-requires c = c.requires.0.kept

pub keep-requires : goal.keep-requires
keep-requires c =
    let a = c.args in
    let e = c.counted-n.ensures ∙ ap counted_of c.turn-s.ensures in
    subst (λ (x : Step). x.track.kept + c.accepts-more.result ≤ x.track.lent) (sym e)
    (rw (c.accepts-more.ensures, c.payload_for-payload.ensures, e) (keeps-room a.t.descriptors a.t a.c c.caught-outcome.result a.c.reading c.requires.0.kept))

pub returns : goal.returns
returns c = rw (c.keep.ensures, c.accepts-more.ensures, c.payload_for-payload.ensures, c.counted-n.ensures, c.turn-s.ensures, c.caught-outcome.ensures)
