-- `wav::chunks::walk` meets its contract: a turn of the loop passes a chunk; the walk ends with the bytes, or at a chunk that goes past them. Assumes nothing.
use Prim.Native.Nat.{◌-◌, ◌≤◌}
use Rattle.wav.specs.Chunks.{chunks_at}
use Rattle.wav.specs.ChunksLaws.{Came}
use Rattle.wav.proofs.chunks.walk.Given as goal

abbrev pub invariant-loop-at : goal.invariant-loop-at
invariant-loop-at l = ((12 ≤ l.at) × (l.at ≤ l.end)) × Came l.s (chunks_at l.s 12 0 (l.end - 12)) (chunks_at l.s l.at 0 (l.end - l.at)) l.fmt l.frames

abbrev pub decreases-loop-at : goal.decreases-loop-at
decreases-loop-at l = l.end - l.at
