-- `wav::writer::write` meets its contract: by what was judged. Assumes nothing.
use mathlib.Core.Path.{sym, ap, ◌∙◌}
use Prim.Native.Nat.{ℕ}
use Rattle.std.specs.Prelude.{Result, Ok}
use lib.ListN.{length}
use Rattle.wav.specs.Wave.{written_by, file_of}
use Rattle.wav.specs.WriteLaws.{done}
use Rattle.wav.specs.Types.{WriteError}
use Rattle.wav.proofs.writer.write.Goals as goal

pub fill-requires : goal.fill-requires
fill-requires c =
    let a = c.args in
    let n = (done a.channels a.format a.rate (length a.frames.now) (length a.out.now) c.in_ok-n.n c.in_ok-n.ensures).0 in
    sym c.in_ok-n.ensures ∙ ap Ok n

pub returns-clause-out_after : goal.returns-clause-out_after
returns-clause-out_after c =
    let a = c.args in
    let n = (done a.channels a.format a.rate (length a.frames.now) (length a.out.now) c.in_ok-n.n c.in_ok-n.ensures).0 in
    c.fill.ensures ∙ ap (λ (x : Result ℕ WriteError). written_by x (file_of a.channels a.format a.rate a.frames.now) a.out.now) (sym (ap Ok n) ∙ c.in_ok-n.ensures)
