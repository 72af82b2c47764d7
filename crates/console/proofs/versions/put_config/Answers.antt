-- `console::versions::put_config` meets its contract: the list of its stores, in the row's order. Assumes nothing.
use Rattle.std.proofs.Common.{Bool, true, false, sym, ap, ◌∙◌}
use lib.Seq.{sets}
use Rattle.layout.specs.Layout.{write}
use Rattle.layout.specs.ChainLaws.{stored}
use Rattle.layout.specs.ChainLaws.Stored.{put, end}
use Rattle.records.specs.Config.{config_row, config_values}
use Rattle.console.proofs.versions.put_config.Goals as goal

pub returns-then-controls : goal.returns-then-controls
returns-then-controls c =
    let a = c.args in
    stored _ a.res.now 0 (config_row true) (config_values true a.c) (put c.put_u32.ensures (put c.put_u32-2.ensures (put c.put_u32-3.ensures (put c.put_u32-then-controls.ensures end))))
    ∙ sym (ap (λ (t : Bool). sets a.res.now 0 (write (config_row t) (config_values t a.c))) c.if-controls.true)

pub returns-else-controls : goal.returns-else-controls
returns-else-controls c =
    let a = c.args in
    stored _ a.res.now 0 (config_row false) (config_values false a.c) (put c.put_u32.ensures (put c.put_u32-2.ensures (put c.put_u32-3.ensures end)))
    ∙ sym (ap (λ (t : Bool). sets a.res.now 0 (write (config_row t) (config_values t a.c))) c.if-controls.false)
