-- Nothing is written, or the ring is none that a traced start left, or the turn is written. Assumes nothing.
use mathlib.Core.Path.{sym, ◌∙◌}
use lib.Dec.{eqb}
use lib.ListN.{length}
use Rattle.turns.specs.Ring.{is_refused}
use Rattle.turns.specs.CallLaws.{passed, failed}
use Rattle.trace.specs.InkLaws.{none_lent, none-ran, some-lent, fits_by, fits-facts, ran-fits, nothing_written, not-traced, traced}
use Rattle.trace.proofs.writer.turn_traced.Goals as goal

pub returns-then-n-eq0 : goal.returns-then-n-eq0
returns-then-n-eq0 c =
    let a = c.args in
    let s = c.traced_track-s.result in
    nothing_written a.t a.len a.room.now a.reading s c.traced_track-s.ensures (none_lent (length a.room.now) (is_refused s.said) c.if-n-eq0.true)

pub returns-then-none : goal.returns-then-none
returns-then-none c =
    let a = c.args in
    let s = c.traced_track-s.result in
    nothing_written a.t a.len a.room.now a.reading s c.traced_track-s.ensures (none-ran (eqb (length a.room.now) 0) (is_refused s.said) (sym c.is_refused-none.ensures ∙ c.if-none.true))

pub returns-then-not-fits : goal.returns-then-not-fits
returns-then-not-fits c =
    let a = c.args in
    let s = c.traced_track-s.result in
    not-traced a.t a.len a.room.now a.reading s c.traced_track-s.ensures _
    (some-lent (length a.room.now) (is_refused s.said) c.if-n-eq0.false (sym c.is_refused-none.ensures ∙ c.if-none.false))
    (fits_by a.t s (length a.room.now) c.ink_size-size.result c.ink_size-size.ensures.0 (failed c.pen_fits-fits.ensures c.if-not-fits.true-raw))
    c.barred.ensures

pub put_ink-end-requires : goal.put_ink-end-requires
put_ink-end-requires c =
    let a = c.args in
    let s = c.traced_track-s.result in
    let f = fits-facts a.t s (length a.room.now) (fits_by a.t s (length a.room.now) c.ink_size-size.result c.ink_size-size.ensures.0 (passed c.pen_fits-fits.ensures c.if-not-fits.false-raw)) in
    let g = ran-fits a.len (length a.room.now) a.t a.reading s c.traced_track-s.ensures (sym c.is_refused-none.ensures ∙ c.if-none.false) f.0 in
    (f.0, (f.1, (g.0, (g.1, f.2))))

pub returns : goal.returns
returns c =
    let a = c.args in
    let s = c.traced_track-s.result in
    traced a.t a.len a.room.now a.reading s c.traced_track-s.ensures _ _
    (some-lent (length a.room.now) (is_refused s.said) c.if-n-eq0.false (sym c.is_refused-none.ensures ∙ c.if-none.false))
    (fits_by a.t s (length a.room.now) c.ink_size-size.result c.ink_size-size.ensures.0 (passed c.pen_fits-fits.ensures c.if-not-fits.false-raw))
    c.put_ink-end.ensures
