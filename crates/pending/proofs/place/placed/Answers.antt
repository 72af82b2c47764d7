-- `pending::place::placed` meets its contract: the stream's number, then the payload behind it. Assumes nothing.
use native.Mathlib.Omega.{arith}
use lib.ListN.{length}
use Rattle.pending.specs.PlacesLaws.{begins-within, no_place, in_place}
use Rattle.pending.proofs.place.placed.Goals as goal

pub returns-then-places-k : goal.returns-then-places-k
returns-then-places-k c =
    let a = c.args in
    no_place a.store.now a.places a.k a.stream a.payload.now c.if-places-k.true

pub overflow_mul-at : goal.overflow_mul-at
overflow_mul-at c =
    let a = c.args in
    let w = begins-within (length a.store.now) a.places a.k _ c.place_size-size.ensures c.if-places-k.false in
    omega (arith, w)

pub overflow_add-at : goal.overflow_add-at
overflow_add-at c =
    let a = c.args in
    let w = begins-within (length a.store.now) a.places a.k _ c.place_size-size.ensures c.if-places-k.false in
    omega (arith, w)

pub returns : goal.returns
returns c =
    let a = c.args in
    in_place a.store.now a.places a.k a.stream a.payload.now _ _ _ c.place_size-size.ensures c.if-places-k.false c.put_u32.ensures c.put_bytes.ensures
