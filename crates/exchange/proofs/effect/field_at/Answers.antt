-- `exchange::effect::field_at` meets its contract, case by case, by the law of tables kept as bytes. Assumes nothing.
use Rattle.std.proofs.Common.{◌≡◌, ℕ, ◌+◌, ◌*◌, ◌<◌, List, [], get_or, refl, ap, ◌∙◌, ap₂, arith}
use Rattle.layout.specs.Bytes.{num_at}
use Rattle.layout.specs.Layout.{size}
use Rattle.layout.specs.Table.{offset}
use Rattle.layout.specs.TableLaws.{field_in}
use Rattle.records.specs.Records.{pcm_info, pcm_info_of}
use Rattle.tables.specs.Tables.{pcm_at, pcms_place, pcms_in}
use Rattle.sound_core.specs.declared.plan.Value.TheVariants as value
use Rattle.exchange.specs.Types.{PcmInfo}
use Rattle.exchange.proofs.effect.field_at.Goals as goal

-- field k of the record at its place
at_field : (t : List ℕ) (i : ℕ) (field : PcmInfo → ℕ) (k : ℕ) → ((vs : List ℕ) → field (pcm_info_of vs) ≡ get_or vs k 0) → (at : ℕ) → i < 127 → at ≡ pcms_place + i * size pcm_info + offset pcm_info k
    → num_at at (get_or pcm_info k 0) t ≡ field (get_or (pcms_in t) i (pcm_info_of []))
unfolding pcm_at
at_field t i field k is = field_in pcm_info_of pcm_info pcms_place 127 i t field k is

pub returns-in-Rates : goal.returns-in-Rates
returns-in-Rates c =
    rw c.in-Rates.is (ap value.Number (c.get_u64.ensures ∙ at_field c.args.tables.now c.args.stream (λ (p : PcmInfo). p.rates) 3 (λ vs. refl) _ c.requires.0 (omega (arith, c.requires.1))))

pub returns-in-Formats : goal.returns-in-Formats
returns-in-Formats c =
    rw c.in-Formats.is (ap value.Number (c.get_u64-in-Formats.ensures ∙ at_field c.args.tables.now c.args.stream (λ (p : PcmInfo). p.formats) 2 (λ vs. refl) _ c.requires.0 (omega (arith, c.requires.1))))

pub returns-in-Channels : goal.returns-in-Channels
returns-in-Channels c =
    rw c.in-Channels.is
    (ap₂ value.Range
    (c.get_u8.ensures ∙ at_field c.args.tables.now c.args.stream (λ (p : PcmInfo). p.min) 5 (λ vs. refl) _ c.requires.0 (omega (arith, c.requires.1)))
    (c.get_u8-in-Channels.ensures ∙ at_field c.args.tables.now c.args.stream (λ (p : PcmInfo). p.max) 6 (λ vs. refl) _ c.requires.0 (omega (arith, c.requires.1))))

pub returns-in-Features : goal.returns-in-Features
returns-in-Features c =
    rw c.in-Features.is (ap value.Number (c.get_u32.ensures ∙ at_field c.args.tables.now c.args.stream (λ (p : PcmInfo). p.features) 1 (λ vs. refl) _ c.requires.0 (omega (arith, c.requires.1))))
