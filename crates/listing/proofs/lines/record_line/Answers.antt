-- `listing::lines::record_line` meets its contract: the page holds the record, so it is read. Assumes nothing.
use mathlib.Core.Path.{sym, ap, ◌∙◌}
use Prim.Native.Nat.{◌≤◌, ◌+◌, ◌*◌}
use native.Mathlib.Omega.{arith}
use lib.ListN.{length}
use Rattle.records.specs.Records.{pcm_info, says_pcm_info, pcm_info_of}
use Rattle.tables.specs.Tables.{pcm_at}
use Rattle.tables.specs.TablesLaws.{row_is, row-never}
use Rattle.listing.specs.Listing.{stream_line}
use Rattle.listing.specs.TextLaws.{gives}
use Rattle.listing.proofs.lines.record_line.Goals as goal

pub returns-in_default : goal.returns-in_default
returns-in_default c =
    let a = c.args in
    let h : 4 + a.i * 32 + 32 ≤ length a.page.now = omega arith in
    absurd (row-never pcm_info a.page.now (4 + a.i * 32) h _ (sym (ap says_pcm_info c.in_default.is) ∙ c.read.ensures))

pub returns : goal.returns
unfolding pcm_at
returns c =
    let a = c.args in
    let h : 4 + a.i * 32 + 32 ≤ length a.page.now = omega (arith, c.requires.0) in
    gives
    (ap (stream_line a.i) (ap pcm_info_of (row_is pcm_info a.page.now (4 + a.i * 32) h _ (sym (ap says_pcm_info c.in-Ok.is) ∙ c.read.ensures))))
    c.stream_line.ensures
