-- `records::config::Config::write` meets its contract: by its length, then by its stores. Assumes nothing.
use mathlib.Core.Path.{sym, ◌∙◌}
use Rattle.records.specs.ConfigLaws.{config-kept, config-put}
use Rattle.records.proofs.config.Config.write.Goals as goal

pub returns-then-out-size_in : goal.returns-then-out-size_in
returns-then-out-size_in c =
    let a = c.args in
    config-kept a.controls a.self a.out.now (λ e. c.if-out-size_in.true (e ∙ sym c.size_in.ensures))

pub returns : goal.returns
returns c =
    let a = c.args in
    config-put a.controls a.self _ _ _ _ a.out.now (c.if-out-size_in.false ∙ c.size_in.ensures) c.put_u32.ensures c.put_u32-2.ensures c.put_u32-3.ensures c.put_u32-4.ensures

pub put_u32-requires : goal.put_u32-requires
put_u32-requires c = tt

pub put_u32-requires-2 : goal.put_u32-requires-2
put_u32-requires-2 c = tt

pub put_u32-requires-3 : goal.put_u32-requires-3
put_u32-requires-3 c = tt

pub put_u32-requires-4 : goal.put_u32-requires-4
put_u32-requires-4 c = tt
