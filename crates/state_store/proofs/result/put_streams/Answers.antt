-- `state_store::result::put_streams` meets its contract: the ids, then their count. Assumes nothing.
use Rattle.std.proofs.Common.{ℕ, List, ap, ◌∙◌, arith}
use lib.Seq.{sets}
use Rattle.exchange.specs.Exchange.{listed}
use Rattle.sound_core.specs.declared.plan.Value.TheVariants.{Streams}
use Rattle.state_store.specs.Calls.{value_bytes}
use Rattle.state_store.specs.ListedLaws.{ids_short, ids_all, count-listed}
use Rattle.state_store.proofs.result.put_streams.Goals as goal

pub overflow_cast-all : goal.overflow_cast-all
overflow_cast-all c =
    let a = c.args in
    omega (arith, c.put_ids-all.ensures.counted, ids_short a.tables.now a.direction 127 (omega arith))

pub returns-then-n-gt127 : goal.returns-then-n-gt127
returns-then-n-gt127 c =
    let a = c.args in
    count-listed _ _ _ _ _ a.direction c.put_ids-all.ensures c.put_u32.ensures
    ∙ ap (λ (ids : List ℕ). sets a.res.now 0 (value_bytes (Streams a.direction) (listed ids))) (ids_all a.tables.now a.direction a.n c.if-n-gt127.true)

pub overflow_cast-count : goal.overflow_cast-count
overflow_cast-count c =
    let a = c.args in
    omega (arith, c.put_ids-count.ensures.counted, ids_short a.tables.now a.direction a.n (omega arith))

pub returns : goal.returns
returns c =
    let a = c.args in
    count-listed _ _ _ _ _ a.direction c.put_ids-count.ensures c.put_u32-2.ensures
