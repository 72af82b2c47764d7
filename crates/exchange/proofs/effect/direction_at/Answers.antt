-- `exchange::effect::direction_at` meets its contract by the law of tables kept as bytes. Assumes nothing.
use Rattle.std.proofs.Common.{refl, ◌∙◌, arith}
use Rattle.layout.specs.TableLaws.{field_in, field_out}
use Rattle.records.specs.Records.{pcm_info, pcm_info_of}
use Rattle.tables.specs.Tables.{pcm_at, pcms_place}
use Rattle.exchange.specs.Types.{PcmInfo}
use Rattle.exchange.proofs.effect.direction_at.Goals as goal

pub returns-then-i-ge127 : goal.returns-then-i-ge127
unfolding pcm_at
returns-then-i-ge127 c = let a = c.args in field_out pcm_info_of pcm_info pcms_place 127 a.stream a.tables.now (λ (p : PcmInfo). p.direction) 4 (λ vs. refl) c.if-i-ge127.true

pub returns : goal.returns
unfolding pcm_at
returns c =
    let a = c.args in
    c.get_u8.ensures ∙ field_in pcm_info_of pcm_info pcms_place 127 a.stream a.tables.now (λ (p : PcmInfo). p.direction) 4 (λ vs. refl) _ c.if-i-ge127.false (omega arith)
