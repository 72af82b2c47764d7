-- `records::config::Config::read` meets its contract: by its length, then by its reads. Assumes nothing.
use mathlib.Core.Path.{sym, ◌∙◌}
use Rattle.records.specs.ConfigLaws.{config-bad, config-is}
use Rattle.records.proofs.config.Config.read.Goals as goal

pub returns-then-s-size_in : goal.returns-then-s-size_in
returns-then-s-size_in c =
    let a = c.args in
    config-bad a.controls a.s.now (λ e. c.if-s-size_in.true (e ∙ sym c.size_in.ensures))

pub returns : goal.returns
returns c =
    let a = c.args in
    config-is a.controls a.s.now _ _ _ _ (c.if-s-size_in.false ∙ c.size_in.ensures) c.get_u32.ensures c.get_u32-2.ensures c.get_u32-3.ensures c.get_u32-4.ensures

pub get_u32-requires : goal.get_u32-requires
get_u32-requires c = tt

pub get_u32-requires-2 : goal.get_u32-requires-2
get_u32-requires-2 c = tt

pub get_u32-requires-3 : goal.get_u32-requires-3
get_u32-requires-3 c = tt

pub get_u32-requires-4 : goal.get_u32-requires-4
get_u32-requires-4 c = tt
