-- `wav::reader::in_riff` meets its contract: the walk, the three tests in their order, the sound. What was found lies within the file. Assumes nothing.
use mathlib.Core.Path.{◌≡◌, refl, ap, ◌∙◌}
use Prim.Native.Nat.{◌+◌, ◌<◌}
use native.Mathlib.Omega.{arith}
use Rattle.std.specs.Prelude.{Result, Ok}
use Rattle.std.proofs.lemmas.Result.{err_from_is_err_and}
use borrow.Author.Rules.{rules}
use borrow.Author.Tests.{lt-ltb, le-ltb, le-leb, lt-leb}
use Rattle.layout.specs.Bytes.{num_at}
use Rattle.codes.specs.SaysLaws.{passes, stops}
use Rattle.wav.specs.ChunksLaws.{found, some-fmt, fmt-within, frames-within, both-within}
use Rattle.wav.specs.Wave.{wave_by, wave_at}
use Rattle.wav.specs.WaveLaws.{by-cut, by-no_fmt, by-no_frames, by-found}
use Rattle.wav.specs.Types.{Sound, WaveError}
use Rattle.wav.proofs.reader.in_riff.Goals as goal

pub returns-in_err-places : goal.returns-in_err-places
returns-in_err-places c =
    let p = err_from_is_err_and c.from_residual.result c.from_residual.ensures.1 in
    rw (p.1, p.2) (by-cut c.args.s.now _ _ c.in_err-places.ensures)

pub returns-in_default : goal.returns-in_default
returns-in_default c = by-no_fmt c.args.s.now _ _ c.in_ok-places.ensures c.in_default.is

pub returns-in_default-frames : goal.returns-in_default-frames
returns-in_default-frames c = by-no_frames c.args.s.now _ _ _ c.in_ok-places.ensures c.in-Some.is c.in_default-frames.is

pub returns-then-frames-fmt : goal.returns-then-frames-fmt
unfolding wave_at
returns-then-frames-fmt c =
    let s = c.args.s.now in
    let q = found s _ _ _ _ c.in_ok-places.ensures c.in-Some.is c.in-Some-frames.is in
    by-found s _ c.in-Some.fmt c.in-Some-frames.frames _ q (passes _ _ _ (lt-ltb 0 c.in-Some.fmt (some-fmt _ _ _ _ c.in_ok-places.ensures c.in-Some.is)) (stops _ _ _ (le-ltb c.in-Some.fmt c.in-Some-frames.frames c.if-frames-fmt.true) refl))

pub overflow_add-fmt : goal.overflow_add-fmt
overflow_add-fmt c =
    let a = c.args in
    let q = found a.s.now _ _ _ _ c.in_ok-places.ensures c.in-Some.is c.in-Some-frames.is in
    let h = fmt-within a.s.now a.end c.in-Some.fmt c.in-Some-frames.frames (search rules) q (some-fmt _ _ _ _ c.in_ok-places.ensures c.in-Some.is) in
    search rules

pub returns-then-get_u32-lt16 : goal.returns-then-get_u32-lt16
unfolding wave_at
returns-then-get_u32-lt16 c =
    let s = c.args.s.now in
    let q = found s _ _ _ _ c.in_ok-places.ensures c.in-Some.is c.in-Some-frames.is in
    let e : c.get_u32.result ≡ num_at (c.in-Some.fmt + 4) 4 s = c.get_u32.ensures in
    by-found s _ c.in-Some.fmt c.in-Some-frames.frames _ q
    (passes _ _ _ (lt-ltb 0 c.in-Some.fmt (some-fmt _ _ _ _ c.in_ok-places.ensures c.in-Some.is))
    (passes _ _ _ (lt-ltb c.in-Some.fmt c.in-Some-frames.frames (omega (arith, c.if-frames-fmt.false)))
    (stops _ _ _ (lt-leb 16 (num_at (c.in-Some.fmt + 4) 4 s) (omega (arith, c.if-get_u32-lt16.true))) refl)))

pub overflow_add-fmt-2 : goal.overflow_add-fmt-2
overflow_add-fmt-2 c =
    let a = c.args in
    let q = found a.s.now _ _ _ _ c.in_ok-places.ensures c.in-Some.is c.in-Some-frames.is in
    let h = fmt-within a.s.now a.end c.in-Some.fmt c.in-Some-frames.frames (search rules) q (some-fmt _ _ _ _ c.in_ok-places.ensures c.in-Some.is) in
    search rules

pub sound_at-requires : goal.sound_at-requires
sound_at-requires c =
    let a = c.args in
    let q = found a.s.now _ _ _ _ c.in_ok-places.ensures c.in-Some.is c.in-Some-frames.is in
    let e : c.get_u32.result ≡ num_at (c.in-Some.fmt + 4) 4 a.s.now = c.get_u32.ensures in
    (both-within a.s.now a.end c.in-Some.fmt c.in-Some-frames.frames (search rules) (search rules) q (some-fmt _ _ _ _ c.in_ok-places.ensures c.in-Some.is) (omega (arith, c.if-frames-fmt.false)) (omega (arith, c.if-get_u32-lt16.false))).0

pub returns-in_err-sound : goal.returns-in_err-sound
unfolding wave_at
returns-in_err-sound c =
    let s = c.args.s.now in
    let p = err_from_is_err_and c.from_residual-in_err-sound.result c.from_residual-in_err-sound.ensures.1 in
    let q = found s _ _ _ _ c.in_ok-places.ensures c.in-Some.is c.in-Some-frames.is in
    let e : c.get_u32.result ≡ num_at (c.in-Some.fmt + 4) 4 s = c.get_u32.ensures in
    rw (p.1, p.2) (by-found s _ c.in-Some.fmt c.in-Some-frames.frames _ q
    (passes _ _ _ (lt-ltb 0 c.in-Some.fmt (some-fmt _ _ _ _ c.in_ok-places.ensures c.in-Some.is))
    (passes _ _ _ (lt-ltb c.in-Some.fmt c.in-Some-frames.frames (omega (arith, c.if-frames-fmt.false)))
    (passes _ _ _ (le-leb 16 (num_at (c.in-Some.fmt + 4) 4 s) (omega (arith, c.if-get_u32-lt16.false)))
    (ap (λ (x : Result Sound WaveError). wave_by x s c.in-Some-frames.frames) c.in_err-sound.ensures)))))

pub overflow_add-frames : goal.overflow_add-frames
overflow_add-frames c =
    let a = c.args in
    let q = found a.s.now _ _ _ _ c.in_ok-places.ensures c.in-Some.is c.in-Some-frames.is in
    let z : 0 < c.in-Some-frames.frames = omega (arith, c.if-frames-fmt.false) in
    let h = frames-within a.s.now a.end c.in-Some.fmt c.in-Some-frames.frames (search rules) q z in
    search rules

pub overflow_add-result : goal.overflow_add-result
overflow_add-result c =
    let a = c.args in
    let q = found a.s.now _ _ _ _ c.in_ok-places.ensures c.in-Some.is c.in-Some-frames.is in
    let z : 0 < c.in-Some-frames.frames = omega (arith, c.if-frames-fmt.false) in
    let h = frames-within a.s.now a.end c.in-Some.fmt c.in-Some-frames.frames (search rules) q z in
    search rules

pub returns : goal.returns
unfolding wave_at
returns c =
    let s = c.args.s.now in
    let q = found s _ _ _ _ c.in_ok-places.ensures c.in-Some.is c.in-Some-frames.is in
    let e : c.get_u32.result ≡ num_at (c.in-Some.fmt + 4) 4 s = c.get_u32.ensures in
    by-found s _ c.in-Some.fmt c.in-Some-frames.frames _ q
    (passes _ _ _ (lt-ltb 0 c.in-Some.fmt (some-fmt _ _ _ _ c.in_ok-places.ensures c.in-Some.is))
    (passes _ _ _ (lt-ltb c.in-Some.fmt c.in-Some-frames.frames (omega (arith, c.if-frames-fmt.false)))
    (passes _ _ _ (le-leb 16 (num_at (c.in-Some.fmt + 4) 4 s) (omega (arith, c.if-get_u32-lt16.false)))
    ((λ i. Ok (record { sound = c.in_ok-sound.sound; offset = c.in-Some-frames.frames + 8; len = c.get_u32-len.ensures i }))
    ∙ ap (λ (y : Result Sound WaveError). wave_by y s c.in-Some-frames.frames) c.in_ok-sound.ensures))))
