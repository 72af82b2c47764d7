-- 2026-11, the writer: a turn writes behind what is written, and turn by turn the room holds the trace.
-- Assumes nothing.
use Rattle.std.specs.Prelude.{Bool, true, false, List, [], ◌∷◌, ◌++◌, ◌≡◌, refl, ℕ, zero, suc, ◌+◌, ◌*◌, ◌≤◌, ◌<◌, eqb, length, Some, None}
use Rattle.std.proofs.Math.Path.{sym, ap}
use Rattle.std.proofs.Common.{subst, ◌∙◌, add-zero, arith, length-append, ne_eqb, eqb-true, lt-ltb, le-leb}
use Rattle.std.proofs.lemmas.List.Edits.{sets}
use Rattle.std.proofs.Math.Seq.{length-sets}
use Rattle.layout.specs.StoreLaws.{sets_then}
use Rattle.layout.specs.Rows.{rows_bytes}
use Rattle.layout.specs.RowsLaws.{rows_bytes-append}
use Rattle.codes.specs.Says.{guard}
use Rattle.codes.specs.SaysLaws.{skips, passes}
use Rattle.codes.specs.declared.answers.Refusal.TheVariants.{InvalidParam}
use Rattle.turns.specs.Ring.{is_refused}
use Rattle.turns.specs.Rules.{choose_of, sent_of, submit, comes_to, played_of, judge_of, is_oldest, settle, hear, act, turn_of, counted_by, counted_of}
use Rattle.turns.specs.CaseLaws.{Plain, Over}
use Rattle.turns.specs.KeepLaws.{turn-after}
use Rattle.turns.specs.RefusalLaws.{turn-answers}
use Rattle.turns.specs.HostLaws.{RunsIn, call-traces, runs_on, never}
use Rattle.turns.specs.Calls.{refused_of, ring_after, written_in}
use Rattle.turns.specs.Log.{Line, Ran, onward, waiting_by, first_of, rest_of, loop_of}
use Rattle.trace.specs.Field.{bytes_of, trace_bytes}
use Rattle.trace.specs.Trace.{fields_of}
use Rattle.trace.specs.Private.{turn_fields}
use Rattle.trace.specs.Writer.{opening_by, opening, pen_of, ink_of, pen_fits, inked, writes_none, inked_by, writing_call, room_after, Penned, traces}
use Rattle.trace.specs.WriterLaws.{sent_in, freed_in, turn-size, turn-held, going-fields}
use Rattle.trace.specs.InkLaws.{opening-size, opening-append, some-lent}
use Rattle.trace.specs.SufficeLaws.{Paced, turn-fits, turn-paces}
use Rattle.trace.specs.Types.{Track, Ring, Step, Sent, Heard, Said, Going, Done, Ended, Refused, Reading, Choice, Submit, Finish, Wait, Verdict, WrongSlot, Good, Bad, Outcome, Field}

-- ---- A TURN THAT GOES ON heard a good completion, or none

settle-good : (v : Verdict) (sent : Sent) (t : Track) (slot status : ℕ) → (settle v sent t slot status).said ≡ Going
    → (settle v sent t slot status).track.good ≡ t.good + freed_in (settle v sent t slot status).heard
settle-good WrongSlot sent t slot status e = absurd (subst Over e tt)
settle-good Good sent t slot status e = refl
settle-good (Bad a) sent t slot status e = absurd (subst Over e tt)

hear-good : (o : Outcome) (sent : Sent) (t : Track) (reading : Reading) → (hear o sent t reading).said ≡ Going → (hear o sent t reading).track.good ≡ t.good + freed_in (hear o sent t reading).heard
hear-good o sent t None e = sym (add-zero t.good)
hear-good o sent t (Some c) e = settle-good (judge_of t c.slot o) sent t c.slot c.status e

act-good : (c : Choice) (t : Track) (o : Outcome) (reading : Reading) → (act c t o reading).said ≡ Going → (act c t o reading).track.good ≡ t.good + freed_in (act c t o reading).heard
act-good Submit t o reading e = hear-good o (sent_of t) (submit t) reading e
act-good Finish t o reading e = absurd (subst Over e tt)
act-good Wait t o reading e = hear-good o None t reading e

-- who counts a turn that goes on changes none of these
pub record Counts (s n : Step) : Type 0 where
  pub going : s.said ≡ Going
  pub good : n.track.good ≡ s.track.good
  pub heard : n.heard ≡ s.heard

counted-goes : (s : Step) → (counted_of s).said ≡ Going → Counts s (counted_of s)
unfolding counted_of
counted-goes s e = by s.said (eqb (s.track.turns + 1) s.track.budget) refl e
  where
    by : (k : Said) (b : Bool) → s.said ≡ k → (counted_by k b s).said ≡ Going → Counts s (counted_by k b s)
    by Going true p h = absurd (subst Over h tt)
    by Going false p h = record { going = p; good = refl; heard = refl }
    by Done b p h = absurd (subst Over h tt)
    by (Ended a) b p h = absurd (subst Over h tt)
    by (Refused r) b p h = absurd (never r h)

turn-good : (least : ℕ) (t : Track) (o : Outcome) (reading : Reading) → (counted_of (turn_of least t o reading)).said ≡ Going
    → (counted_of (turn_of least t o reading)).track.good ≡ t.good + freed_in (counted_of (turn_of least t o reading)).heard
unfolding turn_of
turn-good least t o reading e =
    let k = counted-goes (act (choose_of least t) t o reading) e in
    k.good ∙ act-good (choose_of least t) t o reading k.going ∙ ap (λ (h : Heard). t.good + freed_in h) (sym k.heard)

-- ---- NO RULE looks at the room, nor at what is written there

-- the track as if it wrote no trace
abbrev pub untraced : Track → Track
untraced t =
    record {
      descriptors = t.descriptors;
      head = t.head;
      tail = t.tail;
      inflight = t.inflight;
      stream = t.stream;
      total = t.total;
      period = t.period;
      next = t.next;
      budget = t.budget;
      turns = t.turns;
      running = t.running;
      capture = t.capture;
      lent = t.lent;
      kept = t.kept;
      room = 0;
      written = 0;
      good = t.good;
    }

abbrev bare : Step → Step
bare s = record { track = untraced s.track; sent = s.sent; heard = s.heard; said = s.said }

pub choose-bare : (least : ℕ) (t : Track) → choose_of least (untraced t) ≡ choose_of least t
unfolding choose_of
choose-bare least t = refl

judge-bare : (t : Track) (slot : ℕ) (o : Outcome) → judge_of (untraced t) slot o ≡ judge_of t slot o
unfolding judge_of is_oldest
judge-bare t slot o = refl

settle-bare : (v : Verdict) (sent : Sent) (t : Track) (slot status : ℕ) → settle v sent (untraced t) slot status ≡ bare (settle v sent t slot status)
settle-bare WrongSlot sent t slot status = refl
settle-bare Good sent t slot status = refl
settle-bare (Bad a) sent t slot status = refl

hear-bare : (o : Outcome) (sent : Sent) (t : Track) (reading : Reading) → hear o sent (untraced t) reading ≡ bare (hear o sent t reading)
hear-bare o sent t None = refl
hear-bare o sent t (Some c) = ap (λ (v : Verdict). settle v sent (untraced t) c.slot c.status) (judge-bare t c.slot o) ∙ settle-bare (judge_of t c.slot o) sent t c.slot c.status

act-bare : (c : Choice) (t : Track) (o : Outcome) (reading : Reading) → act c (untraced t) o reading ≡ bare (act c t o reading)
act-bare Submit t o reading = hear-bare o (sent_of t) (submit t) reading
act-bare Finish t o reading = refl
act-bare Wait t o reading = hear-bare o None t reading

counted-bare : (s : Step) → counted_of (bare s) ≡ bare (counted_of s)
unfolding counted_of
counted-bare s = by s.said (eqb (s.track.turns + 1) s.track.budget)
  where
    by : (k : Said) (b : Bool) → counted_by k b (bare s) ≡ bare (counted_by k b s)
    by Going true = refl
    by Going false = refl
    by Done b = refl
    by (Ended a) b = refl
    by (Refused r) b = refl

pub turn-bare : (least : ℕ) (t : Track) (o : Outcome) (reading : Reading) → counted_of (turn_of least (untraced t) o reading) ≡ bare (counted_of (turn_of least t o reading))
unfolding turn_of
turn-bare least t o reading =
    ap (λ (c : Choice). counted_of (act c (untraced t) o reading)) (choose-bare least t)
    ∙ ap counted_of (act-bare (choose_of least t) t o reading)
    ∙ counted-bare (act (choose_of least t) t o reading)

pub waiting-bare : (c : Choice) (t : Track) → waiting_by c (untraced t) ≡ waiting_by c t
waiting-bare Submit t = refl
waiting-bare Finish t = refl
waiting-bare Wait t = refl

-- ---- THE PLACE: how long the trace is tells the ring itself too, while its transfer runs

abbrev place_by : Bool → Track → ℕ
place_by true t = 0
place_by false t = 15 + 20 * t.good + 12 * t.inflight

abbrev pub place_of : Track → ℕ
place_of t = place_by (eqb t.turns 0) t

-- before the first turn nothing went out and nothing came back
abbrev pub Fresh : Track → Type 0
Fresh t = t.turns ≡ 0 → (t.good ≡ 0) × (t.inflight ≡ 0)

-- a transfer of n periods that writes a trace into a room
pub record Traces (n len room : ℕ) (t : Track) : Type 0 where
  pub runs : RunsIn false len room t
  pub short : t.total < 4294967296
  pub low : t.period < 4294967296
  pub paced : Paced n (t.good + t.inflight) t
  pub enough : 19 + 20 * n ≤ room
  pub fresh : Fresh t
  pub place : t.written ≡ place_of t

place_inside : (z : Bool) (n : ℕ) (t : Track) → Paced n (t.good + t.inflight) t → place_by z t ≤ 19 + 20 * n
place_inside true n t p = omega arith
place_inside false n t p = let f = p.few in omega (arith, f)

inside : (n len room : ℕ) (t : Track) → Traces n len room t → t.written ≤ room
inside n len room t k = let p = place_inside (eqb t.turns 0) n t k.paced in let e = k.place in let h = k.enough in omega (arith, p, e, h)

fits_by : (z : Bool) (n : ℕ) (t : Track) (fs : List Field) → (z ≡ true → (t.good ≡ 0) × (t.inflight ≡ 0)) → 15 + 20 * t.good + 12 * t.inflight + length (trace_bytes fs) ≤ 19 + 20 * n
    → place_by z t + length (trace_bytes (opening_by z t fs)) ≤ 19 + 20 * n
fits_by true n t fs fresh h = let s = opening-size true t fs in omega (arith, s, h)
fits_by false n t fs fresh h = let s = opening-size false t fs in omega (arith, s, h)

place-by : (z : Bool) (t u : Track) (sent : Sent) (heard : Heard) → (z ≡ true → (t.good ≡ 0) × (t.inflight ≡ 0)) → u.inflight + freed_in heard ≡ t.inflight + sent_in sent → u.good ≡ t.good + freed_in heard
    → 15 + 20 * u.good + 12 * u.inflight ≡ place_by z t + length (trace_bytes (opening_by z t (turn_fields sent heard Going)))
place-by true t u sent heard fresh held good =
    let f = fresh refl in
    let g = f.0 in
    let i = f.1 in
    let n = opening-size true t (turn_fields sent heard Going) in
    let m = turn-size sent heard in
    omega (arith, g, i, n, m, held, good)
place-by false t u sent heard fresh held good =
    let n = opening-size false t (turn_fields sent heard Going) in
    let m = turn-size sent heard in
    omega (arith, n, m, held, good)

-- a turn was run
later : (t u : Track) → u.turns ≡ t.turns + 1 → eqb u.turns 0 ≡ false
later t u e = ne_eqb u.turns 0 (λ z. omega (arith, e, z))

pen-going : (t : Track) (s : Step) → s.said ≡ Going → pen_of t s ≡ opening t (turn_fields s.sent s.heard Going)
pen-going t s e = ap (λ (k : Said). opening t (turn_fields s.sent s.heard k)) e

plain-ran : (said : Said) → Plain said → is_refused said ≡ false
plain-ran Going p = refl
plain-ran Done p = refl
plain-ran (Ended a) p = refl
plain-ran (Refused r) p = absurd p

-- what is written is no part of what runs
written-runs : (len room w : ℕ) (t : Track) → RunsIn false len room t → RunsIn false len room (written_in w t)
written-runs len room w t r =
    let c = r.consistent in
    let p = c.placed in
    let q = c.paced in
    record {
      consistent =
          record {
            placed = record { mode = p.mode; head_in = p.head_in; tail-in = p.tail-in; room = p.room; line = p.line };
            paced = record { within = q.within; some = q.some; left = q.left };
            kept = c.kept;
            good = c.good;
          };
      running = r.running;
      direction = r.direction;
      whole = r.whole;
      lent_room = r.lent_room;
    }

written-paced : (n k w : ℕ) (t : Track) → Paced n k t → Paced n k (written_in w t)
written-paced n k w t p = record { some = p.some; all = p.all; next = p.next; few = p.few }

-- ---- A TURN of such a transfer

module _ (n len room : ℕ) (t : Track) (x : Reading) (k : Traces n len room t) where
  abbrev o : Outcome
  o = comes_to played_of x

  abbrev pub ran_of : Step
  ran_of = counted_of (turn_of t.descriptors t o x)

  fresh-by : eqb t.turns 0 ≡ true → (t.good ≡ 0) × (t.inflight ≡ 0)
  fresh-by z = k.fresh (eqb-true t.turns 0 z)

  pub fits : t.written + length (ink_of t ran_of) ≤ room
  fits =
      let s = ran_of in
      let f = fits_by (eqb t.turns 0) n t (turn_fields s.sent s.heard s.said) fresh-by (turn-fits t.descriptors n t.good t o x k.paced) in
      let e = k.place in
      let h = k.enough in
      omega (arith, f, e, h)

  pub some_written : writes_none room ran_of ≡ false
  some_written =
      let h = k.enough in
      let z : room ≡ 0 → ⊥ = λ e. omega (arith, h, e) in
      some-lent room (is_refused ran_of.said) z (plain-ran ran_of.said (turn-answers t.descriptors t o x))

  pen-fits : pen_fits t ran_of room ≡ true
  pen-fits = rw (lt-ltb t.total 4294967296 k.short, lt-ltb t.period 4294967296 k.low) (le-leb _ _ fits)

  -- it writes
  pub writes : writing_call t len room x ≡ inked t ran_of
  unfolding writing_call
  writes =
      let s = ran_of in
      ap (λ (y : Step). inked_by t y room) (sym (call-traces len room t x k.runs))
      ∙ skips (writes_none room s) s (guard (pen_fits t s room) (refused_of InvalidParam t) (inked t s)) some_written
      ∙ sym (passes (pen_fits t s room) (refused_of InvalidParam t) (inked t s) pen-fits refl)

  -- and where it goes on, the transfer writes on
  pub writes-on : ran_of.said ≡ Going → Traces n len room (inked t ran_of).track
  writes-on e =
      let s = ran_of in
      let w = t.written + length (ink_of t s) in
      let a = turn-after t.descriptors t o x in
      let g = turn-good t.descriptors t o x e in
      let held = turn-held t.descriptors t o x in
      let total : s.track.total ≡ t.total = ap (λ (y : ℕ × ℕ × ℕ × ℕ × ℕ). y.2) a.0 in
      let period : s.track.period ≡ t.period = ap (λ (y : ℕ × ℕ × ℕ × ℕ × ℕ). y.3) a.0 in
      let p = turn-paces t.descriptors n t.good t o x k.paced in
      record {
        runs = written-runs len room w s.track (runs_on t.descriptors len t o x (omega arith) k.runs e);
        short = subst (λ (y : ℕ). y < 4294967296) (sym total) k.short;
        low = subst (λ (y : ℕ). y < 4294967296) (sym period) k.low;
        paced = written-paced n (s.track.good + s.track.inflight) w s.track (subst (λ (y : ℕ). Paced n (y + s.track.inflight) s.track) (sym g) p);
        enough = k.enough;
        fresh = λ z. absurd (omega (arith, z, a.1));
        place =
            ap (λ (y : ℕ). y + length (ink_of t s)) k.place
            ∙ ap (λ (fs : List Field). place_of t + length (trace_bytes fs)) (pen-going t s e)
            ∙ sym (place-by (eqb t.turns 0) t s.track s.sent s.heard fresh-by held g)
            ∙ ap (λ (z : Bool). place_by z (inked t s).track) (sym (later t s.track a.1));
      }

-- ---- TURN BY TURN

-- what the turns of a log write, from a track on
abbrev pub rest_trace : Track → List Line → List Field
rest_trace t [] = []
rest_trace t (l ∷ ls) = opening t (fields_of (l ∷ ls))

rest-later : (t u : Track) (ls : List Line) → u.turns ≡ t.turns + 1 → rest_trace u ls ≡ fields_of ls
rest-later t u [] e = refl
rest-later t u (l ∷ ls) e = ap (λ (z : Bool). opening_by z u (fields_of (l ∷ ls))) (later t u e)

-- the line that a turn leaves in the log
abbrev line_by : ℕ → Reading → Step → Line
line_by waiting reading s = record { sent = s.sent; waiting = waiting; reading = reading; heard = s.heard; said = s.said }

-- behind what is written stands what the turns of the log write; the track tells where it ends, and the room was long enough
pub record Holds (t : Track) (room : List ℕ) (h : Ran Penned) : Type 0 where
  pub stands : h.at.room ≡ sets room t.written (trace_bytes (rest_trace t h.log))
  pub told : h.at.ring.track.written ≡ t.written + length (trace_bytes (rest_trace t h.log))
  pub inside : t.written + length (trace_bytes (rest_trace t h.log)) ≤ length room

module _ (ring : Ring) (room : List ℕ) (s : Step) (w : ℕ) (x : Reading) where
  abbrev t : Track
  t = ring.track

  abbrev left : Penned
  left = record { ring = ring_after ring (inked t s); room = sets room t.written (ink_of t s) }

  module _ (fits : t.written + length (ink_of t s) ≤ length room) (turns : s.track.turns ≡ t.turns + 1) (rest : Ran Penned) where
    joined : s.said ≡ Going → trace_bytes (opening t (fields_of (line_by w x s ∷ rest.log))) ≡ ink_of t s ++ trace_bytes (rest_trace left.ring.track rest.log)
    joined e =
        let ls = rest.log in
        let fs = turn_fields s.sent s.heard Going in
        ap (λ (gs : List Field). trace_bytes (opening t gs)) (going-fields (line_by w x s) ls e)
        ∙ ap trace_bytes (sym (opening-append (eqb t.turns 0) t fs (fields_of ls)))
        ∙ rows_bytes-append bytes_of (opening t fs) (fields_of ls)
        ∙ ap (λ (gs : List Field). trace_bytes gs ++ trace_bytes (fields_of ls)) (sym (pen-going t s e))
        ∙ ap (λ (gs : List Field). ink_of t s ++ trace_bytes gs) (sym (rest-later t left.ring.track ls turns))

    goes : s.said ≡ Going → Holds left.ring.track left.room rest → Holds t room (record { said = rest.said; at = rest.at; log = line_by w x s ∷ rest.log })
    goes e ih =
        let ink = ink_of t s in
        let more = trace_bytes (rest_trace left.ring.track rest.log) in
        let j = ap length (joined e) ∙ length-append ink more in
        let told = ih.told in
        let inside = ih.inside in
        let size = length-sets room t.written ink in
        record {
          stands = ih.stands ∙ sets_then room t.written (t.written + length ink) ink more refl ∙ ap (sets room t.written) (sym (joined e));
          told = omega (arith, told, j);
          inside = omega (arith, inside, j, size);
        }

    holds_by : (said : Said) → s.said ≡ said → (said ≡ Going → Holds left.ring.track left.room rest) → Holds t room (onward said (line_by w x s) left rest)
    holds_by Going e ih = goes e (ih refl)
    holds_by Done e ih = record { stands = refl; told = refl; inside = fits }
    holds_by (Ended a) e ih = record { stands = refl; told = refl; inside = fits }
    holds_by (Refused r) e ih = record { stands = refl; told = refl; inside = fits }

-- what a turn leaves, by its step and the room
abbrev later_by : ℕ → ℕ → Penned → Reading → List Reading → Step → List ℕ → Ran Penned
later_by len fuel a x script s room =
    let b : Penned = record { ring = ring_after a.ring s; room = room } in
    onward s.said (line_by (waiting_by (choose_of a.ring.track.descriptors a.ring.track) a.ring.track) x s) b (traces len fuel b script)

-- THE ROOM: behind what is written, what the turns of the log write
pub written : (n len fuel : ℕ) (a : Penned) (script : List Reading) → Traces n len (length a.room) a.ring.track → Holds a.ring.track a.room (traces len fuel a script)
unfolding loop_of rows_bytes
written n len zero a script k =
    let h = inside n len (length a.room) a.ring.track k in
    record { stands = refl; told = sym (add-zero a.ring.track.written); inside = omega (arith, h) }
written n len (suc fuel) a script k =
    let t = a.ring.track in
    let room = a.room in
    let x = first_of script in
    let s = ran_of n len (length room) t x k in
    let d = t.descriptors in
    let l = sets room t.written (ink_of t s) in
    let size = length-sets room t.written (ink_of t s) in
    let b : Penned = record { ring = ring_after a.ring (inked t s); room = l } in
    let same : room_after t (inked t s) room ≡ l = skips (writes_none (length room) s) room l (some_written n len (length room) t x k) in
    let main : Holds t room (later_by len fuel a x (rest_of script) (inked t s) l)
    = holds_by a.ring room s (waiting_by (choose_of d t) t) x (fits n len (length room) t x k) (turn-after d t (comes_to played_of x) x).1 (traces len fuel b (rest_of script)) s.said refl
    (λ e. written n len fuel b (rest_of script) (subst (λ (y : ℕ). Traces n len y (inked t s).track) (sym size) (writes-on n len (length room) t x k e))) in
    subst (λ (y : Step). Holds t room (later_by len fuel a x (rest_of script) y (room_after t y room))) (sym (writes n len (length room) t x k))
    (subst (λ (y : List ℕ). Holds t room (later_by len fuel a x (rest_of script) (inked t s) y)) (sym same) main)
