-- `wav::sound::judge` meets its contract: the tests in their order, then the three numbers. Assumes nothing.
use mathlib.Core.Path.{◌≡◌, refl, sym, ap, ◌∙◌}
use native.Mathlib.Omega.{arith}
use Rattle.std.specs.Prelude.{Ok}
use borrow.Author.Tests.{eq-eqb, ne_eqb, lt-ltb, le-ltb}
use Rattle.codes.specs.SaysLaws.{passes, stops}
use Rattle.codes.specs.Formats.{format_number, says_format}
use Rattle.codes.specs.Rates.{rate_number, says_rate, place_of, hz_table}
use Rattle.wav.specs.Wave.{format_of_bits, block_of, sound_of}
use Rattle.wav.specs.WaveLaws.{is_number, no_number}
use Rattle.wav.proofs.sound.judge.Goals as goal

pub returns-then-tag-ne1 : goal.returns-then-tag-ne1
unfolding sound_of
returns-then-tag-ne1 c = let a = c.args in stops _ _ _ (ne_eqb a.tag 1 c.if-tag-ne1.true) refl

pub returns-in_default : goal.returns-in_default
unfolding sound_of
returns-in_default c =
    let a = c.args in
    passes _ _ _ (eq-eqb a.tag 1 c.if-tag-ne1.false)
    (stops _ _ _ (no_number 25 (format_of_bits a.bits) _ (sym (ap says_format c.in_default.is) ∙ c.format_of.ensures)) refl)

pub returns-in_default-from_hz : goal.returns-in_default-from_hz
unfolding sound_of
returns-in_default-from_hz c =
    let a = c.args in
    let f = is_number 25 (format_of_bits a.bits) (format_number c.in-Ok.format) (sym (ap says_format c.in-Ok.is) ∙ c.format_of.ensures) in
    passes _ _ _ (eq-eqb a.tag 1 c.if-tag-ne1.false)
    (passes _ _ _ f.0
    (stops _ _ _ (no_number 14 (place_of a.hz hz_table) _ (sym (ap says_rate c.in_default-from_hz.is) ∙ c.from_hz.ensures)) refl))

pub returns-then-channels-eq0 : goal.returns-then-channels-eq0
unfolding sound_of
returns-then-channels-eq0 c =
    let a = c.args in
    let f = is_number 25 (format_of_bits a.bits) (format_number c.in-Ok.format) (sym (ap says_format c.in-Ok.is) ∙ c.format_of.ensures) in
    let r = is_number 14 (place_of a.hz hz_table) (rate_number c.in-Ok-from_hz.rate) (sym (ap says_rate c.in-Ok-from_hz.is) ∙ c.from_hz.ensures) in
    passes _ _ _ (eq-eqb a.tag 1 c.if-tag-ne1.false) (passes _ _ _ f.0 (passes _ _ _ r.0 (stops _ _ _ (le-ltb 0 a.channels (omega (arith, c.if-channels-eq0.true))) refl)))

pub returns-then-channels-ge256 : goal.returns-then-channels-ge256
unfolding sound_of
returns-then-channels-ge256 c =
    let a = c.args in
    let f = is_number 25 (format_of_bits a.bits) (format_number c.in-Ok.format) (sym (ap says_format c.in-Ok.is) ∙ c.format_of.ensures) in
    let r = is_number 14 (place_of a.hz hz_table) (rate_number c.in-Ok-from_hz.rate) (sym (ap says_rate c.in-Ok-from_hz.is) ∙ c.from_hz.ensures) in
    passes _ _ _ (eq-eqb a.tag 1 c.if-tag-ne1.false)
    (passes _ _ _ f.0
    (passes _ _ _ r.0
    (passes _ _ _ (lt-ltb 0 a.channels (omega (arith, c.if-channels-eq0.false))) (stops _ _ _ (le-ltb a.channels 256 c.if-channels-ge256.true) refl))))

pub returns-then-size-block : goal.returns-then-size-block
unfolding sound_of
returns-then-size-block c =
    let a = c.args in
    let f = is_number 25 (format_of_bits a.bits) (format_number c.in-Ok.format) (sym (ap says_format c.in-Ok.is) ∙ c.format_of.ensures) in
    let r = is_number 14 (place_of a.hz hz_table) (rate_number c.in-Ok-from_hz.rate) (sym (ap says_rate c.in-Ok-from_hz.is) ∙ c.from_hz.ensures) in
    let w : c.block.result ≡ block_of a.channels (format_of_bits a.bits) = c.block.ensures ∙ ap (block_of a.channels) f.1 in
    passes _ _ _ (eq-eqb a.tag 1 c.if-tag-ne1.false)
    (passes _ _ _ f.0
    (passes _ _ _ r.0
    (passes _ _ _ (lt-ltb 0 a.channels (omega (arith, c.if-channels-eq0.false)))
    (passes _ _ _ (lt-ltb a.channels 256 (omega (arith, c.if-channels-ge256.false)))
    (stops _ _ _ (ne_eqb a.size (block_of a.channels (format_of_bits a.bits)) (λ e. c.if-size-block.true (e ∙ sym w))) refl)))))

pub returns : goal.returns
unfolding sound_of
returns c =
    let a = c.args in
    let f = is_number 25 (format_of_bits a.bits) (format_number c.in-Ok.format) (sym (ap says_format c.in-Ok.is) ∙ c.format_of.ensures) in
    let r = is_number 14 (place_of a.hz hz_table) (rate_number c.in-Ok-from_hz.rate) (sym (ap says_rate c.in-Ok-from_hz.is) ∙ c.from_hz.ensures) in
    let w : c.block.result ≡ block_of a.channels (format_of_bits a.bits) = c.block.ensures ∙ ap (block_of a.channels) f.1 in
    passes _ _ _ (eq-eqb a.tag 1 c.if-tag-ne1.false)
    (passes _ _ _ f.0
    (passes _ _ _ r.0
    (passes _ _ _ (lt-ltb 0 a.channels (omega (arith, c.if-channels-eq0.false)))
    (passes _ _ _ (lt-ltb a.channels 256 (omega (arith, c.if-channels-ge256.false)))
    (passes _ _ _ (eq-eqb a.size (block_of a.channels (format_of_bits a.bits)) (c.if-size-block.false ∙ w))
    (λ i. Ok (record { channels = a.channels; format = (c.number.ensures ∙ f.1) i; rate = (c.number-2.ensures ∙ r.1) i })))))))
