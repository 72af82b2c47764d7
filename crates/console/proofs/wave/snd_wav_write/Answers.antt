-- `console::wave::snd_wav_write` meets its contract: by what writing said. Assumes nothing.
use Prim.Native.Nat.{ℕ}
use Rattle.std.specs.Prelude.{Result, Err}
use Rattle.std.proofs.Common.{sym, ap, ◌∙◌}
use Rattle.layout.specs.Lent.{made}
use Rattle.wav.specs.Wave.{says_wrote}
use Rattle.wav.specs.declared.writer.WriteError.{WriteError}
use Rattle.console.specs.Entries.{file_entry}
use Rattle.console.proofs.wave.snd_wav_write.Goals as goal

pub returns-in-Ok : goal.returns-in-Ok
unfolding file_entry
returns-in-Ok c =
    let said = ap (λ (r : Result ℕ WriteError). (says_wrote r).number) (sym c.in-Ok.is ∙ c.write.ensures.value) in
    λ i. made (said i) (c.write.ensures.out_after i)

pub returns-in-Err-BadSound : goal.returns-in-Err-BadSound
unfolding file_entry
returns-in-Err-BadSound c =
    let said = ap (λ (r : Result ℕ WriteError). (says_wrote r).number) (sym (ap Err c.in-Err-BadSound.field-0-is) ∙ sym c.in-Err-BadSound.is ∙ c.write.ensures.value) in
    λ i. made (said i) (c.write.ensures.out_after i)

pub returns-in-Err-BadLength : goal.returns-in-Err-BadLength
unfolding file_entry
returns-in-Err-BadLength c =
    let said = ap (λ (r : Result ℕ WriteError). (says_wrote r).number) (sym (ap Err c.in-Err-BadLength.field-0-is) ∙ sym c.in-Err-BadLength.is ∙ c.write.ensures.value) in
    λ i. made (said i) (c.write.ensures.out_after i)
