-- `records::config::Config::size_in` meets its contract. Assumes nothing.
use mathlib.Core.Path.{sym, ap}
use mathlib.Core.Bool.{Bool}
use Rattle.layout.specs.Layout.{size}
use Rattle.records.specs.Config.{config_row}
use Rattle.records.proofs.config.Config.size_in.Goals as goal

pub returns-then-controls : goal.returns-then-controls
returns-then-controls c = sym (ap (λ (t : Bool). size (config_row t)) c.if-controls.true)

pub returns-else-controls : goal.returns-else-controls
returns-else-controls c = sym (ap (λ (t : Bool). size (config_row t)) c.if-controls.false)
