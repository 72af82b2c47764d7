-- 2026-11, the writer: from a start that goes on, by the loop of its turns and by that of turns that write no trace.
-- Assumes nothing.
use Rattle.std.specs.Prelude.{Bool, true, false, ◌||◌, List, [], ◌∷◌, ◌++◌, ◌≡◌, refl, ℕ, suc, ◌+◌, ◌*◌, ◌/◌, ◌%◌, ◌≤◌, ◌<◌, eqb, length, take, drop, Some, None, Ok}
use Rattle.std.proofs.lemmas.Bool.{false≢true}
use Rattle.std.proofs.Common.{sym, ap, subst, ◌∙◌, zero-add, zero-mul, suc-mul, add-zero, div-add-mod', mod-lt, arith, eqb-true}
use Rattle.std.proofs.lemmas.List.Edits.{sets, sets-eq}
use Rattle.std.proofs.Math.Seq.{length-sets}
use Rattle.codes.specs.Says.{pick, guard}
use Rattle.codes.specs.SaysLaws.{passes, guarded-by}
use Rattle.codes.specs.declared.answers.Refusal.TheVariants.{InvalidParam}
use Rattle.turns.specs.Rules.{choose_of, comes_to, played_of}
use Rattle.turns.specs.Ring.{is_refused}
use Rattle.turns.specs.Calls.{refused_of, traced_call, drained, drain_call, begun_in, start_call, periods_of, start_traced, ring_after}
use Rattle.turns.specs.Asked.{starts, plays}
use Rattle.turns.specs.KeepLaws.{turn-after}
use Rattle.turns.specs.RefusalLaws.{Untouched, refuses, traced-refused}
use Rattle.turns.specs.HostLaws as host
use Rattle.turns.specs.HostLaws.{seen, loops-alike, Runs, begins, begins-traced, never}
use Rattle.turns.specs.Log.{Line, Ran, waiting_by, played, ruled, run}
use Rattle.trace.specs.Field.{trace_bytes}
use Rattle.trace.specs.Trace.{trace_of}
use Rattle.trace.specs.Judge.{judges}
use Rattle.trace.specs.Judged.{emitted-accepted}
use Rattle.trace.specs.Runs.{AllReal}
use Rattle.trace.specs.Writer.{ink_of, pen_fits, inked, writes_none, writing_call, room_after, Penned, tracing, traces}
use Rattle.trace.specs.WrittenLaws.{untraced, choose-bare, turn-bare, waiting-bare, Traces, ran_of, writes, writes-on, rest_trace, Holds, written}
use Rattle.trace.specs.Types.{Track, Ring, Step, Going, Reading}

-- ---- the periods are enough for the frames

ceil-by : (q p r total : ℕ) (z : Bool) → q * p + r ≡ total → r < p → eqb r 0 ≡ z → total ≤ (q + pick z 0 1) * p
ceil-by q p r total true e h s =
    let none : r ≡ 0 = eqb-true r 0 s in
    let m : (q + 0) * p ≡ q * p = ap (λ (n : ℕ). n * p) (add-zero q) in
    omega (arith, e, none, m)
ceil-by q p r total false e h s =
    let one : q + 1 ≡ suc q = omega arith in
    let m : (q + 1) * p ≡ q * p + p = ap (λ (n : ℕ). n * p) one ∙ suc-mul q p in
    omega (arith, e, h, m)

covers : (total period : ℕ) → 0 < period → total ≤ periods_of total period * period
covers total period some = ceil-by (total / period) period (total % period) total (eqb (total % period) 0) (div-add-mod' total period) (mod-lt total some) refl

-- ---- a traced start that goes on is a start that goes on

pub goes-too : (t : Track) (stream total period budget room : ℕ) → (start_traced t stream total period budget room).said ≡ Going → Going ≡ (start_call t stream total period budget).said
unfolding start_traced start_call
goes-too t stream total period budget room =
    let P : Step → Type 0 = λ s. s.said ≡ Going → Going ≡ (start_call t stream total period budget).said in
    guarded-by P _ _ _
    (λ c. guarded-by P _ _ _
    (λ i. guarded-by P _ _ _
    (λ p. guarded-by P _ _ _ (λ b _. ap (λ (s : Step). s.said) (passes _ _ _ c (passes _ _ _ i (passes _ _ _ p (passes _ _ _ b refl))))) (λ _ e. absurd (never _ e)))
    (λ _ e. absurd (never _ e)))
    (λ _ e. absurd (never _ e)))
    (λ _ e. absurd (never _ e))

take-front : (l m : List ℕ) → take (length l) (l ++ m) ≡ l
take-front [] m = refl
take-front (x ∷ xs) m = ap (λ (z : List ℕ). x ∷ z) (take-front xs m)

-- ---- refusals, and drain turns

either-none : (a b : Bool) → (a || b) ≡ false → (a ≡ false) × (b ≡ false)
either-none true b e = absurd (false≢true (sym e))
either-none false b e = (refl, e)

pub writing-refused : (t : Track) (len room : ℕ) (reading : Reading) → Untouched t (writing_call t len room reading)
unfolding writing_call
writing-refused t len room reading = by (writes_none room (traced_call t len room reading)) refl
  where
    by : (z : Bool) → writes_none room (traced_call t len room reading) ≡ z → Untouched t (pick z (traced_call t len room reading) (guard (pen_fits t (traced_call t len room reading) room) (refused_of InvalidParam t) (inked t (traced_call t len room reading))))
    by true e = traced-refused t len room reading
    by false e =
        guarded-by (λ (y : Step). Untouched t y) _ _ _
        (λ _ x k. absurd (false≢true (sym (either-none (eqb room 0) (is_refused (traced_call t len room reading).said) e).1 ∙ ap is_refused k)))
        (λ _. refuses t InvalidParam)

pub drains-keep : (t : Track) (reading : Reading) → (drain_call t reading).track.written ≡ t.written
unfolding drain_call
drains-keep t reading =
    let P : Step → Type 0 = λ s. s.track.written ≡ t.written in
    guarded-by P _ _ _ (λ _. guarded-by P _ _ _ (λ _. refl) (λ _. by reading)) (λ _. refl)
  where
    by : (reading : Reading) → (drained t reading).track.written ≡ t.written
    by None = refl
    by (Some c) = guarded-by (λ (s : Step). s.track.written ≡ t.written) _ _ _ (λ _. refl) (λ _. refl)

-- ---- the host's loop and the run of the rules say the same, line for line; the track is the same but for the trace

abbrev Inv : ℕ → ℕ → ℕ → Penned → Type 0
Inv least n len a = (a.ring.track.descriptors ≡ least) × Traces n len (length a.room) a.ring.track

abbrev Alike : ℕ → ℕ → ℕ → Penned → Reading → Type 0
Alike least n len a x =
    ((tracing len a x).line ≡ (ruled played least (untraced a.ring.track) x).line)
    × (untraced (tracing len a x).left.ring.track ≡ (ruled played least (untraced a.ring.track) x).left)
    × ((tracing len a x).line.said ≡ Going → Inv least n len (tracing len a x).left)

-- the line of a step
abbrev line_by : ℕ → Reading → Step → Line
line_by waiting reading s = record { sent = s.sent; waiting = waiting; reading = reading; heard = s.heard; said = s.said }

same_turn : (n len : ℕ) (a : Penned) (x : Reading) → Traces n len (length a.room) a.ring.track → Alike a.ring.track.descriptors n len a x
same_turn n len a x k =
    let t = a.ring.track in
    let d = t.descriptors in
    let room = a.room in
    let o = comes_to played_of x in
    let s = ran_of n len (length room) t x k in
    let call = writing_call t len (length room) x in
    let e : call ≡ inked t s = writes n len (length room) t x k in
    let bare = sym (turn-bare d t o x) in
    let waits : waiting_by (choose_of d t) t ≡ waiting_by (choose_of d (untraced t)) (untraced t)
    = sym (waiting-bare (choose_of d t) t) ∙ ap (λ (c : _). waiting_by c (untraced t)) (sym (choose-bare d t)) in
    let mode : s.track.descriptors ≡ d = ap (λ (z : ℕ × ℕ × ℕ × ℕ × ℕ). z.0) (turn-after d t o x).0 in
    let size : length (room_after t call room) ≡ length room = after-size t call room in (
      ap (λ (y : Step). line_by (waiting_by (choose_of d t) t) x y) e ∙ ap (λ (w : ℕ). line_by w x s) waits ∙ ap (λ (y : Step). line_by (waiting_by (choose_of d (untraced t)) (untraced t)) x y) bare,
      ap (λ (y : Step). untraced y.track) e ∙ ap (λ (y : Step). y.track) bare,
      λ g. (
        ap (λ (y : Step). y.track.descriptors) e ∙ mode,
        subst (λ (m : ℕ). Traces n len m call.track) (sym size) (subst (λ (y : Step). Traces n len (length room) y.track) (sym e) (writes-on n len (length room) t x k (ap (λ (y : Step). y.said) (sym e) ∙ g))),
      ),
    )
  where
    size-by : (z : Bool) (l m : List ℕ) → length m ≡ length l → length (pick z l m) ≡ length l
    size-by true l m h = refl
    size-by false l m h = h

    after-size : (t : Track) (s : Step) (l : List ℕ) → length (room_after t s l) ≡ length l
    after-size t s l = size-by (writes_none (length l) s) l (sets l t.written (ink_of t s)) (length-sets l t.written (ink_of t s))

link : (least n len fuel : ℕ) (a : Penned) (script : List Reading) → Inv least n len a
    → seen (λ (p : Penned). untraced p.ring.track) (traces len fuel a script) ≡ run played least fuel (untraced a.ring.track) script
link least n len fuel a script i =
    loops-alike None (tracing len) (ruled played least) (λ (p : Penned). untraced p.ring.track) (Inv least n len)
    (λ b x h. subst (λ (k : ℕ). Alike k n len b x) h.0 (same_turn n len b x h.1)) fuel a script i

-- ---- from the beginning

rest-whole : (room : ℕ) (t : Track) (stream total period budget : ℕ) (log : List Line) → rest_trace (begun_in room false total t stream total period budget) log ≡ trace_of stream total period log
rest-whole room t stream total period budget [] = refl
rest-whole room t stream total period budget (l ∷ ls) = refl

-- what a traced start that goes on leaves, and the turns after it
module _ (r : Ring) (stream period budget : ℕ) (frames room : List ℕ) (going : (start_traced r.track stream (length frames) period budget (length room)).said ≡ Going) (low : period < 4294967296) where
  abbrev len : ℕ
  len = length frames

  abbrev begins-so : host.BeginsTraced r.track stream len period budget (length room) (start_traced r.track stream len period budget (length room))
  begins-so = begins-traced r.track stream len period budget (length room) going

  abbrev first : Track
  first = begun_in (length room) false len r.track stream len period budget

  abbrev opens : Penned
  opens = record { ring = ring_after r (start_traced r.track stream len period budget (length room)); room = room }

  first-traces : Traces (periods_of len period) len (length room) first
  first-traces =
      let b = begins-so in
      let some : 0 < period = b.runs.consistent.paced.some refl in
      let z = zero-mul period in
      record {
        runs = b.runs;
        short = b.short;
        low = low;
        paced = record { some = some; all = covers len period some; next = λ _. sym z; few = omega arith };
        enough = b.enough;
        fresh = λ _. (refl, refl);
        place = refl;
      }

  opens-traces : Traces (periods_of len period) len (length room) opens.ring.track
  opens-traces = subst (Traces (periods_of len period) len (length room)) (sym begins-so.track) first-traces

  module _ (script : List Reading) where
    abbrev ran : Ran Penned
    ran = traces len budget opens script

    abbrev trace : List ℕ
    trace = trace_bytes (trace_of stream len period ran.log)

    holds : Holds first room ran
    holds = subst (λ (t : Track). Holds t room ran) begins-so.track (written (periods_of len period) len budget opens script opens-traces)

    whole : trace_bytes (rest_trace first ran.log) ≡ trace
    whole = ap trace_bytes (rest-whole (length room) r.track stream len period budget ran.log)

    long : 0 + length trace ≤ length room
    long = subst (λ (l : List ℕ). 0 + length l ≤ length room) whole holds.inside

    -- its log is that of a transfer that writes no trace
    ran-log : ran.log ≡ (run played r.track.descriptors budget (untraced first) script).log
    ran-log =
        ap (λ (x : Ran Track). x.log) (link r.track.descriptors (periods_of len period) len budget opens script (ap (λ (t : Track). t.descriptors) begins-so.track, opens-traces))
        ∙ ap (λ (t : Track). (run played r.track.descriptors budget (untraced t) script).log) begins-so.track

    pub room-holds : (length trace ≤ length room) × (ran.at.room ≡ trace ++ drop (length trace) room) × (ran.at.ring.track.written ≡ length trace)
    room-holds =
        let h = long in
        let n = zero-add (length trace) in (
          omega (arith, h, n),
          holds.stands
              ∙ ap (sets room 0) whole
              ∙ sets-eq trace room 0 h
              ∙ ap (λ (k : ℕ). trace ++ drop k room) n,
          holds.told ∙ ap (λ (l : List ℕ). 0 + length l) whole ∙ n,
        )

    starts-too : (starts r stream period budget frames).said ≡ Going
    starts-too = sym (goes-too r.track stream len period budget (length room) going)

    -- and so the log of the host's loop over plain turns
    pub same_log : ran.log ≡ (plays r stream period budget frames script).log
    same_log =
        let d = r.track.descriptors in
        let b = begins r.track stream len period budget starts-too in
        let ring = (starts r stream period budget frames).ring in
        let runs : Runs len ring.track = subst (λ (t : Track). Runs len t) (sym b.track) b.runs in
        ran-log ∙ sym (ap (λ (x : Ran Track). x.log) (host.link d len budget ring script (ap (λ (t : Track). t.descriptors) b.track) runs) ∙ ap (λ (t : Track). (run played d budget t script).log) b.track)

    pub accepts-room : stream < 4294967296 → AllReal script → judges r.track.descriptors r.track.descriptors (take ran.at.ring.track.written ran.at.room) ≡ Ok tt
    accepts-room wide real =
        let d = r.track.descriptors in
        let w = room-holds in
        let e : take ran.at.ring.track.written ran.at.room ≡ trace = ap (λ (k : ℕ). take k ran.at.room) w.2 ∙ ap (take (length trace)) w.1 ∙ take-front trace (drop (length trace) room) in
        ap (judges d d) (e ∙ ap (λ (l : List Line). trace_bytes (trace_of stream len period l)) same_log)
        ∙ emitted-accepted r stream period budget frames script starts-too (wide, (begins-so.short, (low, tt))) real
