-- `console::wave::put_wave` meets its contract: the list of its stores, in the row's order. Assumes nothing.
use Rattle.layout.specs.ChainLaws.{stored}
use Rattle.layout.specs.ChainLaws.Stored.{put, end}
use Rattle.console.specs.Entries.{wave_row, wave_values}
use Rattle.console.proofs.wave.put_wave.Goals as goal

pub returns : goal.returns
returns c =
    let a = c.args in
    stored _ a.res.now 0 wave_row (wave_values a.w)
    (put c.put_u64.ensures (put c.put_u64-2.ensures (put c.put_u8.ensures (put c.put_u8-2.ensures (put c.put_u8-3.ensures end)))))
