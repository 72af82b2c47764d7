-- `console::versions::snd_config` meets its contract: each test in its order. Assumes nothing.
use Rattle.std.proofs.Common.{ℕ, List, refl, ap, ◌∙◌, le-leb}
use lib.Seq.{sets}
use borrow.Author.Tests.{lt-leb}
use Rattle.codes.specs.SaysLaws.{passes, stops}
use Rattle.codes.specs.Versions.{has_controls}
use Rattle.layout.specs.Lent.{shown}
use Rattle.console.specs.Entries.{config_entry}
use Rattle.console.specs.VersionLaws.{version-known, version-unknown, config-refused, config-fits, config-counts}
use Rattle.console.proofs.versions.snd_config.Goals as goal

pub returns-then-res-lt-RESULT : goal.returns-then-res-lt-RESULT
unfolding config_entry
returns-then-res-lt-RESULT c = stops _ _ _ (lt-leb _ _ c.if-res-lt-RESULT.true) refl

pub returns-in_default : goal.returns-in_default
unfolding config_entry
returns-in_default c =
    let a = c.args in
    passes _ _ _ (le-leb _ _ c.if-res-lt-RESULT.false)
    (stops _ _ _ (config-refused (has_controls a.version a.features) _ a.config.now _ c.has_controls-controls.ensures c.read.ensures _ c.in_default.is) refl)

pub returns-in_default-try_from : goal.returns-in_default-try_from
unfolding config_entry
returns-in_default-try_from c =
    let a = c.args in
    passes _ _ _ (le-leb _ _ c.if-res-lt-RESULT.false)
    (passes _ _ _ (config-fits (has_controls a.version a.features) _ a.config.now _ c.has_controls-controls.ensures c.read.ensures _ c.in-Ok.is)
    (stops _ _ _ (version-unknown a.version _ _ c.in_default-try_from.is c.try_from.ensures) refl))

pub returns : goal.returns
unfolding config_entry
returns c =
    let a = c.args in
    let controls = has_controls a.version a.features in
    passes _ _ _ (le-leb _ _ c.if-res-lt-RESULT.false)
    (passes _ _ _ (config-fits controls _ a.config.now _ c.has_controls-controls.ensures c.read.ensures _ c.in-Ok.is)
    (passes _ _ _ (version-known a.version _ _ c.in-Ok-try_from.is c.try_from.ensures)
    (ap (shown 0) (c.put_config.ensures ∙ ap (λ (l : List ℕ). sets a.res.now 0 l) (config-counts controls _ a.config.now _ c.has_controls-controls.ensures c.read.ensures _ c.in-Ok.is)))))
