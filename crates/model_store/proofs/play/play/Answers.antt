-- `model_store::play::play` meets its contract. Assumes nothing.
use Rattle.std.proofs.Common.{sym, ap, ◌∙◌, arith}
use Rattle.model.specs.TransferLaws.{plays-length}
use Rattle.model_store.specs.Types.{Counts}
use Rattle.model.specs.Device.{within_of}
use Rattle.model.specs.Transfer.{plays}
use Rattle.model_store.specs.TransferLaws.{play-none, play-more}
use Rattle.model_store.proofs.play.play.Goals as goal

pub overflow_sub-more : goal.overflow_sub-more
overflow_sub-more c =
    let h = plays-length c.args.counts c.args.request.now (sym c.plays.ensures ∙ c.if-plays.true) in
    omega arith

pub returns-then-plays : goal.returns-then-plays
returns-then-plays c =
    let a = c.args in
    let e = c.requires.1 in
    let t = ap (λ (n : Counts). plays n a.request.now) (sym e) ∙ sym c.plays.ensures ∙ c.if-plays.true in
    play-more a.device.now a.request.now (λ k. (c.slice_known-1.given k).fits) (ap within_of (sym e) ∙ c.requires.2) t _ _ _ _ c.get_u32.ensures c.get_u64-n.ensures c.wrapping_add_u64.ensures.value c.put_u64.ensures

pub returns : goal.returns
returns c =
    let a = c.args in
    play-none a.device.now a.request.now (λ k. (c.slice_known-1.given k).fits) (ap (λ (n : Counts). plays n a.request.now) (sym c.requires.1) ∙ sym c.plays.ensures ∙ c.if-plays.false)
