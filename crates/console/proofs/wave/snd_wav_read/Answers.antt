-- `console::wave::snd_wav_read` meets its contract: by what reading said. Assumes nothing.
use Rattle.std.specs.Prelude.{Err}
use Rattle.std.proofs.Common.{sym, refl, ap, ◌∙◌, le-leb}
use borrow.Author.Tests.{lt-leb}
use Rattle.codes.specs.SaysLaws.{passes, stops}
use Rattle.layout.specs.Lent.{shown}
use Rattle.console.specs.Entries.{wave_shown, wave_entry}
use Rattle.console.proofs.wave.snd_wav_read.Goals as goal

pub returns-then-res-lt-RESULT : goal.returns-then-res-lt-RESULT
unfolding wave_entry
returns-then-res-lt-RESULT c = stops _ _ _ (lt-leb _ _ c.if-res-lt-RESULT.true) refl

pub returns-in-Ok : goal.returns-in-Ok
unfolding wave_entry
returns-in-Ok c =
    let a = c.args in
    passes _ _ _ (le-leb _ _ c.if-res-lt-RESULT.false)
    (ap (shown 0) c.put_wave.ensures ∙ ap (wave_shown a.res.now) (sym c.in-Ok.is ∙ c.read.ensures))

pub returns-in-Err-NotWave : goal.returns-in-Err-NotWave
unfolding wave_entry
returns-in-Err-NotWave c =
    let a = c.args in
    passes _ _ _ (le-leb _ _ c.if-res-lt-RESULT.false) (ap (wave_shown a.res.now) (sym (ap Err c.in-Err-NotWave.field-0-is) ∙ sym c.in-Err-NotWave.is ∙ c.read.ensures))

pub returns-in-Err-BadSound : goal.returns-in-Err-BadSound
unfolding wave_entry
returns-in-Err-BadSound c =
    let a = c.args in
    passes _ _ _ (le-leb _ _ c.if-res-lt-RESULT.false) (ap (wave_shown a.res.now) (sym (ap Err c.in-Err-BadSound.field-0-is) ∙ sym c.in-Err-BadSound.is ∙ c.read.ensures))
