-- `wav::chunks::walk` meets its contract: a turn of the loop passes a chunk; the walk ends with the bytes, or at a chunk that goes past them. Assumes nothing.
use mathlib.Core.Path.{◌≡◌, refl, ap, ◌∙◌}
use Rattle.std.specs.Option.{option_or}
use Prim.Native.Nat.{◌-◌, ◌+◌, ◌<◌}
use native.Mathlib.Omega.{arith}
use Rattle.layout.specs.Bytes.{num_at}
use Rattle.wav.specs.Chunks.{chunks_at, padded}
use Rattle.wav.specs.ChunksLaws.{begins, is_cut, is-laid, turns-on}
use Rattle.wav.proofs.chunks.walk.Goals as goal

pub loop-at-init : goal.loop-at-init
loop-at-init c = (omega arith, begins _ _)

pub returns-then-left-lt8 : goal.returns-then-left-lt8
returns-then-left-lt8 c =
    let a = c.args in
    let s = a.s.now in
    is_cut s (chunks_at s 12 0 (a.end - 12)) c.loop-at.at (a.end - c.loop-at.at) c.loop-at.fmt c.loop-at.frames (omega arith) (omega arith) c.loop-at.invariant.1

pub returns-then-left-takes : goal.returns-then-left-takes
returns-then-left-takes c =
    let a = c.args in
    let s = a.s.now in
    let e : c.get_u32-size.result ≡ num_at (c.loop-at.at + 4) 4 s = c.get_u32-size.ensures in
    let h : a.end - c.loop-at.at < 8 + padded (num_at (c.loop-at.at + 4) 4 s) = rw (← e) (omega (arith, c.if-left-takes.true)) in
    is_cut s (chunks_at s 12 0 (a.end - 12)) c.loop-at.at (a.end - c.loop-at.at) c.loop-at.fmt c.loop-at.frames (omega arith) h c.loop-at.invariant.1

pub loop-at-preserved : goal.loop-at-preserved
loop-at-preserved c =
    let a = c.args in
    let s = a.s.now in (
      omega arith,
      turns-on s (chunks_at s 12 0 (a.end - 12)) c.loop-at.at a.end _ c.get_u32-size.result c.get_u32-tag.result c.loop-at.fmt c.loop-at.frames _ _
          (omega arith) c.get_u32-size.ensures c.get_u32-tag.ensures refl (omega (arith, c.if-left-takes.false))
          (c.or-fmt.ensures ∙ ap (option_or c.loop-at.fmt) c.then_some.ensures) (c.or-frames.ensures ∙ ap (option_or c.loop-at.frames) c.then_some-in-loop-at.ensures) c.loop-at.invariant.1,
    )

pub returns : goal.returns
returns c =
    let a = c.args in
    let s = a.s.now in
    let z : a.end - c.loop-at.at ≡ 0 = omega arith in
    is-laid s (chunks_at s 12 0 (a.end - 12)) c.loop-at.at c.loop-at.fmt c.loop-at.frames (rw z at c.loop-at.invariant.1)

pub overflow_sub-left : goal.overflow_sub-left
overflow_sub-left c = omega arith

pub overflow_add-at : goal.overflow_add-at
overflow_add-at c = omega arith

pub overflow_cast-size : goal.overflow_cast-size
overflow_cast-size c = omega arith

pub overflow_add-takes : goal.overflow_add-takes
overflow_add-takes c = omega arith

pub overflow_add-takes-in-loop-at : goal.overflow_add-takes-in-loop-at
overflow_add-takes-in-loop-at c = omega arith

pub overflow_add-at-in-loop-at : goal.overflow_add-at-in-loop-at
overflow_add-at-in-loop-at c = omega arith

pub loop-at-smaller : goal.loop-at-smaller
loop-at-smaller c = omega arith
