-- `wav::writer::fill` meets its contract: the header, the frames, the pad, one after the other, are the file. Assumes nothing.
use mathlib.Core.Path.{◌≡◌, sym, ap, ◌∙◌}
use Prim.Native.Nat.{ℕ, ◌+◌, ◌/◌, ◌≤◌}
use native.Mathlib.Omega.{arith}
use lib.ListN.{length, get_or}
use lib.Seq.{sets}
use borrow.Author.Rules.{rules}
use borrow.Author.Tests.{ltb-false}
use Rattle.layout.specs.Layout.{write}
use Rattle.codes.specs.Formats.{format_number, says_format, storage_table, storage_bits}
use Rattle.codes.specs.Rates.{rate_number, says_rate, hz_table}
use Rattle.wav.specs.Chunks.{padded}
use Rattle.wav.specs.Wave.{block_of, header, header_values, header_of}
use Rattle.wav.specs.WaveLaws.{is_number, no_number, small_product}
use Rattle.wav.specs.WriteLaws.{is_held, not-held, never, byte-rate, done, file-stored}
use Rattle.wav.proofs.writer.fill.Goals as goal

pub returns-in_default : goal.returns-in_default
returns-in_default c =
    let a = c.args in
    let fits = (done a.channels a.format a.rate (length a.frames.now) (length a.out.now) (44 + padded (length a.frames.now)) (sym c.requires)).1 in
    let n = not-held a.format _ (sym (ap says_format c.in_default.is) ∙ c.held.ensures) in
    absurd (never (sym n ∙ fits.format))

pub returns-in_default-try_from : goal.returns-in_default-try_from
returns-in_default-try_from c =
    let a = c.args in
    let fits = (done a.channels a.format a.rate (length a.frames.now) (length a.out.now) (44 + padded (length a.frames.now)) (sym c.requires)).1 in
    let n = ltb-false a.rate 14 (no_number 14 a.rate _ (sym (ap says_rate c.in_default-try_from.is) ∙ c.try_from.ensures)) in
    absurd (omega (arith, n, fits.rate))

-- what was judged before: the contract's `requires`
pub overflow_cast-len : goal.overflow_cast-len
overflow_cast-len c =
    let a = c.args in
    let fits = (done a.channels a.format a.rate (length a.frames.now) (length a.out.now) (44 + padded (length a.frames.now)) (sym c.requires)).1 in
    let h : padded (length a.frames.now) ≤ 4294967259 = fits.small in
    search rules

pub put_header-requires : goal.put_header-requires
put_header-requires c =
    let r = c.in-Ok-try_from.r in
    let f = c.in-Ok.f in
    let a = c.args in
    let fits = (done a.channels a.format a.rate (length a.frames.now) (length a.out.now) (44 + padded (length a.frames.now)) (sym c.requires)).1 in
    let e : c.storage_bits.result ≡ storage_bits f = c.storage_bits.ensures in
    let h : c.storage_bits.result ≤ 255 = search rules in
    let q = small_product a.channels (storage_bits f / 8) (search rules) (omega arith) in
    (byte-rate r c.hz.result c.block-whole.result c.hz.ensures (omega (arith, c.block-whole.ensures)), fits.small)

pub overflow_add-len : goal.overflow_add-len
overflow_add-len c =
    let a = c.args in
    let fits = (done a.channels a.format a.rate (length a.frames.now) (length a.out.now) (44 + padded (length a.frames.now)) (sym c.requires)).1 in
    let h : padded (length a.frames.now) ≤ 4294967259 = fits.small in
    search rules

pub returns : goal.returns
unfolding header_of
returns c =
    let a = c.args in
    let fits = (done a.channels a.format a.rate (length a.frames.now) (length a.out.now) (44 + padded (length a.frames.now)) (sym c.requires)).1 in
    let q = is_number 14 a.rate (rate_number c.in-Ok-try_from.r) (sym (ap says_rate c.in-Ok-try_from.is) ∙ c.try_from.ensures) in
    let t = is_held a.format (format_number c.in-Ok.f) (sym (ap says_format c.in-Ok.is) ∙ c.held.ensures) in
    let hz : c.hz.result ≡ get_or hz_table a.rate 0 = c.hz.ensures ∙ ap (λ (n : ℕ). get_or hz_table n 0) q.1 in
    let whole : c.block-whole.result ≡ block_of a.channels a.format = c.block-whole.ensures ∙ ap (block_of a.channels) t.1 in
    let bits : c.storage_bits.result ≡ get_or storage_table a.format 0 = c.storage_bits.ensures ∙ ap (λ (n : ℕ). get_or storage_table n 0) t.1 in
    file-stored a.out.now _ _ _ a.frames.now a.channels a.format a.rate fits.enough
    (c.put_header.ensures ∙ (λ i. sets a.out.now 0 (write header (header_values a.channels (hz i) (whole i) (bits i) (length a.frames.now)))))
    c.put_bytes.ensures
    c.put_pad.ensures

pub put_pad-requires : goal.put_pad-requires
put_pad-requires c = omega arith
