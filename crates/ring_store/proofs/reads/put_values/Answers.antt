-- The values passed stand in the result. Assumes nothing.
use Rattle.std.proofs.Common.{ℕ, List, ap, ◌∙◌}
use Rattle.std.proofs.lemmas.List.{take_all}
use Rattle.std.proofs.lemmas.List.Edits.{sets}
use Rattle.ring_store.specs.Calls.{words}
use Rattle.ring_store.specs.ReadsLaws.{words-none, words-more}
use Rattle.ring_store.proofs.reads.put_values.Goals as goal

pub loop-i-init : goal.loop-i-init
loop-i-init c = words-none c.args.res.now c.args.values.now

pub loop-i-preserved : goal.loop-i-preserved
loop-i-preserved c =
    let l = c.loop-i in
    words-more c.args.res.now c.args.values.now l.res _ l.i c.loop-i-test.true l.invariant c.put_u64.ensures

pub returns : goal.returns
returns c =
    let l = c.loop-i in
    l.invariant ∙ ap (λ (vs : List ℕ). sets c.args.res.now 0 (words vs)) (take_all l.i c.args.values.now c.loop-i-test.false)
