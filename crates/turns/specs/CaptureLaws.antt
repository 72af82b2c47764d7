-- What the code of a capture leans on, and what its turn keeps.
-- Assumes nothing.
use Rattle.std.specs.Prelude.{ℕ, ◌+◌, ◌-◌, ◌*◌, ◌/◌, ◌≤◌, ◌<◌, min, ◌≡◌, Bool, true, false, ◌||◌, not, List, leb, take, Ok, Err, None, Some}
use Rattle.std.proofs.Common.{arith, le-div_iff_mul-le, div-lt_iff_lt-mul, sym, ap, ◌∙◌, le-leb, leb-true, leb-false}
use Rattle.std.proofs.lemmas.List.Edits.{sets}
use Rattle.std.proofs.lemmas.Bool.{lt-leb}
use Rattle.turns.specs.Rules.{turn_of, counted_of}
use Rattle.turns.specs.CallLaws.{both-fails, both_rest}
use Rattle.turns.specs.KeepLaws.{turn-after}
use Rattle.turns.specs.Capture.{length_good, reaches, lends_all, accepts, payload_for, recording_after}
use Rattle.turns.specs.Types.{Track, Heard, Step, Reading, Outcome, Catch, completion}

-- ---- the written length

pub good-short : (period written : ℕ) → written < 8 → false ≡ length_good period written
good-short period written h = both-fails _ _ (lt-leb 8 written h)

good-by : (period written : ℕ) (b : Bool) → 8 ≤ written → leb (written - 8) period ≡ b → b ≡ length_good period written
good-by period written true h e = let l : written - 8 ≤ period = leb-true _ _ e in both_rest _ _ (le-leb 8 written h) (sym (le-leb written (period + 8) (omega arith)))
good-by period written false h e = let l : period < written - 8 = leb-false _ _ e in both_rest _ _ (le-leb 8 written h) (sym (lt-leb written (period + 8) (omega arith)))

pub good-last : (period written : ℕ) (b : Bool) → 8 ≤ written → b ≡ leb (written - 8) period → b ≡ length_good period written
good-last period written b h e = good-by period written b h (sym e)

-- ---- the bytes lent with a completion

or-first : (a b : Bool) → a ≡ true → true ≡ (a || b)
or-first a b e = rw e

or-last : (a b z : Bool) → z ≡ b → a ≡ false → z ≡ (a || b)
or-last a b z e f = rw f e

pub lends-idle : (t : Track) (c : Catch) → not t.running ≡ true → true ≡ lends_all t c
lends-idle t c e = or-first _ _ e

pub lends-quiet : (t : Track) (c : Catch) → not t.running ≡ false → c.reading ≡ None → true ≡ lends_all t c
lends-quiet t c e q = or-last _ _ true (sym (ap (λ (x : Reading). reaches x c.lent (min c.written (t.period + 8))) q)) e

pub lends-last : (t : Track) (c : Catch) (slot status need : ℕ) (b : Bool) → not t.running ≡ false → c.reading ≡ completion slot status → need ≡ min c.written (t.period + 8) → b ≡ leb need c.lent → b ≡ lends_all t c
lends-last t c slot status need b e q n h =
    or-last _ _ b (h ∙ ap (λ (k : ℕ). leb k c.lent) n ∙ sym (ap (λ (x : Reading). reaches x c.lent (min c.written (t.period + 8))) q)) e

-- ---- what is accepted

pub accepts-most : (o : Outcome) (heard : Heard) (payload : ℕ) → accepts o heard payload ≤ payload
accepts-most (Ok tt) (Some f) payload = omega arith
accepts-most (Ok tt) None payload = omega arith
accepts-most (Err r) heard payload = omega arith

-- what a turn accepts has room in the recording
pub keeps-room : (least : ℕ) (t : Track) (c : Catch) (o : Outcome) (reading : Reading) → t.kept ≤ t.lent
    → let s = counted_of (turn_of least t o reading) in s.track.kept + accepts o s.heard (payload_for t c) ≤ s.track.lent
keeps-room least t c o reading h =
    let s = counted_of (turn_of least t o reading) in
    let same = (turn-after least t o reading).2 in
    let kept : s.track.kept ≡ t.kept = ap (λ (x : Bool × ℕ × ℕ × ℕ × ℕ). x.2) same in
    let lent : s.track.lent ≡ t.lent = ap (λ (x : Bool × ℕ × ℕ × ℕ × ℕ). x.1) same in
    let most = accepts-most o s.heard (payload_for t c) in
    omega arith

-- ---- so many periods, and the recording

pub holds-periods : (periods period len : ℕ) → 0 < period → periods ≤ len / period → periods * period ≤ len
holds-periods periods period len p h = (le-div_iff_mul-le p).0 h

pub lacks-periods : (periods period len : ℕ) → 0 < period → len / period < periods → len < periods * period
lacks-periods periods period len p h = (div-lt_iff_lt-mul p).0 h

-- ---- the copy

pub copy-nothing : (t : Track) (s : Step) (bytes recording : List ℕ) → s.track.kept ≤ t.kept → recording ≡ recording_after t s bytes recording
copy-nothing t s bytes recording h = let z : s.track.kept - t.kept ≡ 0 = omega arith in ap (λ (n : ℕ). sets recording t.kept (take n bytes)) (sym z)
