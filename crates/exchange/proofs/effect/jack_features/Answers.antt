-- `exchange::effect::jack_features` meets its contract by the law of tables kept as bytes. Assumes nothing.
use Rattle.std.proofs.Common.{refl, ◌∙◌, arith}
use Rattle.layout.specs.TableLaws.{field_in, field_out}
use Rattle.records.specs.Records.{jack_info, jack_info_of}
use Rattle.tables.specs.Tables.{jack_at, jacks_place}
use Rattle.exchange.specs.Types.{JackInfo}
use Rattle.exchange.proofs.effect.jack_features.Goals as goal

pub returns-then-i-ge170 : goal.returns-then-i-ge170
unfolding jack_at
returns-then-i-ge170 c = let a = c.args in field_out jack_info_of jack_info jacks_place 170 a.jack a.tables.now (λ (r : JackInfo). r.features) 1 (λ vs. refl) c.if-i-ge170.true

pub returns : goal.returns
unfolding jack_at
returns c =
    let a = c.args in
    c.get_u32.ensures ∙ field_in jack_info_of jack_info jacks_place 170 a.jack a.tables.now (λ (r : JackInfo). r.features) 1 (λ vs. refl) _ c.if-i-ge170.false (omega arith)
