-- `state_store::config::make` meets its contract: the core, then zeros. Assumes nothing.
use Rattle.std.proofs.Common.{ap, ◌∙◌}
use lib.Seq.{sets}
use Rattle.layout.specs.Layout.{write}
use Rattle.state_store.specs.Types.{Core}
use Rattle.state_store.specs.Store.{head_row, head_values, head_of}
use Rattle.state_store.specs.NewLaws.{new-short, new-made}
use Rattle.state_store.proofs.config.make.Goals as goal

pub returns-then-state-lt-SIZE : goal.returns-then-state-lt-SIZE
returns-then-state-lt-SIZE c = let a = c.args in new-short a.guard a.state.now a.jacks a.streams a.chmaps c.if-state-lt-SIZE.true

pub returns : goal.returns
returns c =
    let a = c.args in
    new-made a.guard a.state.now a.jacks a.streams a.chmaps c.if-state-lt-SIZE.false
    (c.put_core.ensures ∙ ap (λ (k : Core). sets a.state.now 0 (write head_row (head_values (head_of k)))) c.new.ensures) c.clear.ensures
