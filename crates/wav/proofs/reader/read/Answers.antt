-- `wav::reader::read` meets its contract: the four tests of the head in their order, then the chunks. Assumes nothing.
use mathlib.Core.Path.{◌≡◌, refl, sym, ap, ◌∙◌}
use Prim.Native.Nat.{ℕ, ◌+◌, ◌-◌}
use native.Mathlib.Omega.{arith}
use lib.ListN.{length}
use borrow.Author.Rules.{rules}
use borrow.Author.Tests.{eq-eqb, ne_eqb, le-leb, lt-leb}
use Rattle.layout.specs.Bytes.{num_at}
use Rattle.codes.specs.SaysLaws.{passes, stops}
use Rattle.wav.specs.Chunks.{riff_tag, wave_tag, chunks_at}
use Rattle.wav.specs.Wave.{wave_in, wave_of}
use Rattle.wav.proofs.reader.read.Goals as goal

pub returns-then-get_u32-ne-RIFF_TAG : goal.returns-then-get_u32-ne-RIFF_TAG
unfolding wave_of
returns-then-get_u32-ne-RIFF_TAG c = let s = c.args.s.now in stops _ _ _ (ne_eqb (num_at 0 4 s) riff_tag (λ e. c.if-get_u32-ne-RIFF_TAG.true (c.get_u32.ensures ∙ e))) refl

pub returns-then-size-lt4 : goal.returns-then-size-lt4
unfolding wave_of
returns-then-size-lt4 c =
    let s = c.args.s.now in
    let e : c.get_u32-size.result ≡ num_at 4 4 s = c.get_u32-size.ensures in
    passes _ _ _ (eq-eqb (num_at 0 4 s) riff_tag (sym c.get_u32.ensures ∙ c.if-get_u32-ne-RIFF_TAG.false)) (stops _ _ _ (lt-leb 4 (num_at 4 4 s) (omega (arith, c.if-size-lt4.true))) refl)

pub returns-then-s-size : goal.returns-then-s-size
unfolding wave_of
returns-then-s-size c =
    let s = c.args.s.now in
    let e : c.get_u32-size.result ≡ num_at 4 4 s = c.get_u32-size.ensures in
    passes _ _ _ (eq-eqb (num_at 0 4 s) riff_tag (sym c.get_u32.ensures ∙ c.if-get_u32-ne-RIFF_TAG.false))
    (passes _ _ _ (le-leb 4 (num_at 4 4 s) (omega (arith, c.if-size-lt4.false))) (stops _ _ _ (lt-leb (8 + num_at 4 4 s) (length s) (omega (arith, c.if-s-size.true))) refl))

pub returns-then-get_u32-ne-WAVE_TAG : goal.returns-then-get_u32-ne-WAVE_TAG
unfolding wave_of
returns-then-get_u32-ne-WAVE_TAG c =
    let s = c.args.s.now in
    let e : c.get_u32-size.result ≡ num_at 4 4 s = c.get_u32-size.ensures in
    passes _ _ _ (eq-eqb (num_at 0 4 s) riff_tag (sym c.get_u32.ensures ∙ c.if-get_u32-ne-RIFF_TAG.false))
    (passes _ _ _ (le-leb 4 (num_at 4 4 s) (omega (arith, c.if-size-lt4.false)))
    (passes _ _ _ (le-leb (8 + num_at 4 4 s) (length s) (omega (arith, c.if-s-size.false)))
    (stops _ _ _ (ne_eqb (num_at 8 4 s) wave_tag (λ q. c.if-get_u32-ne-WAVE_TAG.true (c.get_u32-2.ensures ∙ q))) refl)))

pub in_riff-requires : goal.in_riff-requires
in_riff-requires c = (search rules, search rules)

pub returns : goal.returns
unfolding wave_of
returns c =
    let s = c.args.s.now in
    let n = c.get_u32-size.result in
    let e : n ≡ num_at 4 4 s = c.get_u32-size.ensures in
    let m : 8 + n - 12 ≡ num_at 4 4 s - 4 = omega arith in
    passes _ _ _ (eq-eqb (num_at 0 4 s) riff_tag (sym c.get_u32.ensures ∙ c.if-get_u32-ne-RIFF_TAG.false))
    (passes _ _ _ (le-leb 4 (num_at 4 4 s) (omega (arith, c.if-size-lt4.false)))
    (passes _ _ _ (le-leb (8 + num_at 4 4 s) (length s) (omega (arith, c.if-s-size.false)))
    (passes _ _ _ (eq-eqb (num_at 8 4 s) wave_tag (sym c.get_u32-2.ensures ∙ c.if-get_u32-ne-WAVE_TAG.false)) (c.in_riff.ensures ∙ ap (λ (k : ℕ). wave_in s (chunks_at s 12 0 k)) m))))
