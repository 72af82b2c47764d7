-- What a call or an answer leads to passes the consistency test again, and stores only what passed every test.
-- Assumes nothing.
use Rattle.std.specs.Prelude.{◌≡◌, ℕ, ◌<◌, ◌≤◌, Bool, true, false, ◌&&◌, List, ◌==◌, nat_lt}
use Rattle.std.proofs.Math.Path.{refl, subst}
use Rattle.std.proofs.Common.{sym, ap, ◌∙◌, arith, lt-ltb}
use Rattle.std.proofs.lemmas.Bool.{false≢true}
use Rattle.tables.specs.Tables.{is_good}
use Rattle.tables.specs.TablesLaws.{good-whole}
use Rattle.turns.specs.ConsistentLaws.{both}
use Rattle.sound_core.specs.State.{with_stage}
use Rattle.sound_core.specs.Consistent.{period_ok, call_ok, numbers_ok, held_to, sent_ok, queries_answered, exactly, none_or_all, tables_ok, consistent_of, params_ok}
use Rattle.exchange.specs.ConsistentLaws.{At, facts_at, ready-sent, full, exactly-self, none_or_all-self, ready-tables, sent-facts}
use Rattle.sound_core.specs.Plan.{effect_of, verdict_by, read_to}
use Rattle.exchange.specs.OwnLaws.{Own, sets, commands, remaps, lists, tells, refuses, picked-by}
use Rattle.exchange.specs.PlanLaws.{Begun, bars, asks, goes, begun, counted, Answered, short, idle, asks-streams, asks-maps, cuts, finishes, ends, fails, fed}
use Rattle.exchange.specs.Exchange.{call_of}
use Rattle.exchange.specs.Feed.{Feed, paged, failed, plan_of, verdict_of}
use Rattle.exchange.specs.Types.{Written, Verdict, Track, Counts, Params, Kind, Call, SetParams, Command, Remap, Streams, Supported, Xfer, Capture, Stage, Idle, JacksAsked, StreamsAsked, MapsAsked, Sent, Core, Sound, Effect, Nothing, FillJacks, FillStreams, FillMaps, Store, Move, Look, Plan}

abbrev pub Allowed : Core → Effect → Type 0
Allowed c Nothing = Unit {0}
Allowed c (FillJacks n) = Unit {0}
Allowed c (FillStreams n) = Unit {0}
Allowed c (FillMaps n) = Unit {0}
Allowed c (Store stream to) = (params_ok to ≡ true) × (c.ready ≡ true) × (stream < c.counts.streams)
Allowed c (Move stream life) = c.ready ≡ true

pub record Fine (c : Core) (p : Plan) : Type 0 where
  pub consistent : consistent_of p.core ≡ true
  pub effect : Allowed c p.effect

pub ask-fine : (c : Core) (call : Call) → consistent_of c ≡ true → c.stage ≡ Idle → c.ready ≡ false → call_ok call ≡ true → consistent_of (with_stage c (JacksAsked call)) ≡ true
unfolding consistent_of
ask-fine c call e g r ok =
    let t : tables_ok c.read c.counts (queries_answered Idle c.ready) ≡ true = (facts_at c Idle e g).tables in
    let u : tables_ok c.read c.counts 0 ≡ true = ap (λ (b : Bool). tables_ok c.read c.counts (queries_answered Idle b)) (sym r) ∙ t in
    rw (r, u, ok)

-- the two ends of a call's own part
module _ (c : Core) (r : c.ready ≡ true) (t : tables_ok c.read c.counts 3 ≡ true) where
  idle-fine : consistent_of (with_stage c Idle) ≡ true
  unfolding consistent_of
  idle-fine = rw (r, t)

  sent-fine : (call : Call) → sent_ok c.guard call c.read.streams ≡ true → consistent_of (with_stage c (Sent call)) ≡ true
  unfolding consistent_of
  sent-fine call h = rw (r, t, h)

  set-fine : (stream : ℕ) (to : Params) → numbers_ok to ≡ true → period_ok to.buffer to.period ≡ true → stream < c.counts.streams
      → sent_ok c.guard (SetParams stream to) c.read.streams ≡ true
  set-fine stream to n p h =
      let f = full c.read c.counts t in
      let k = lt-ltb stream c.read.streams (omega (arith, f.streams)) in
      rw (n, p, k)

  command-fine : (kind : Kind) (stream : ℕ) → held_to c.guard (nat_lt stream c.counts.streams) ≡ true → sent_ok c.guard (Command kind stream) c.read.streams ≡ true
  command-fine kind stream h = ap (λ (n : ℕ). held_to c.guard (nat_lt stream n)) (full c.read c.counts t).streams ∙ h

  pub own-fine : {look : Look} {call : Call} {p : Plan} → call_ok call ≡ true → Own c look call p → Fine c p
  own-fine ok (sets {stream} {to} p h _) = record { consistent = sent-fine (SetParams stream to) (set-fine stream to ok p h); effect = tt }
  own-fine ok (commands {kind} {stream} h _) = record { consistent = sent-fine (Command kind stream) (command-fine kind stream h); effect = tt }
  own-fine ok (remaps {jack} {association} {sequence} h _ b) = record { consistent = sent-fine (Remap jack association sequence) refl; effect = tt }
  own-fine ok lists = record { consistent = idle-fine; effect = tt }
  own-fine ok (tells h) = record { consistent = idle-fine; effect = tt }
  own-fine ok (refuses x _) = record { consistent = idle-fine; effect = tt }

-- a call
pub begun-fine : {c : Core} {call : Call} {look : Look} {p : Plan} → consistent_of c ≡ true → Begun c call look p → Fine c p
begun-fine e (bars x) = record { consistent = e; effect = tt }
begun-fine {c} {call} e (asks _ g r ok) = record { consistent = ask-fine c call e g r ok; effect = tt }
begun-fine {c} e (goes _ g r ok o) = own-fine c r (ready-tables c e r) ok o

-- ---- an answer

-- a good page holds as many as are configured
abbrev Room : Stage → Counts → Type 0
Room Idle n = Unit {0}
Room (JacksAsked call) n = n.jacks ≤ 170
Room (StreamsAsked call) n = n.streams ≤ 127
Room (MapsAsked call) n = n.maps ≤ 170
Room (Sent call) n = Unit {0}

page-room : (w : Written) (g : Stage) (n : Counts) (page : List ℕ) → is_good (verdict_by w g n page) ≡ true → Room g n
page-room w Idle n page e = tt
page-room w (JacksAsked call) n page e = omega (arith, (good-whole w page n.jacks 24 e).fits)
page-room w (StreamsAsked call) n page e = omega (arith, (good-whole w page n.streams 32 e).fits)
page-room w (MapsAsked call) n page e = omega (arith, (good-whole w page n.maps 24 e).fits)
page-room w (Sent call) n page e = tt

counted-fine : (v : Verdict) (n most : ℕ) → (is_good v ≡ true → n ≤ most) → none_or_all (counted v n) n most ≡ true
counted-fine v n most h = picked-by (λ (k : ℕ). none_or_all k n most ≡ true) (is_good v) n 0 (λ g. none_or_all-self n most (h g)) (λ _. refl)

effect-fine : (c : Core) (call : Call) → At c (Sent call) → Allowed c (effect_of call)
effect-fine c (SetParams stream to) a =
    let f = sent-facts c stream to a in
    let n = f.0 in
    let p = f.1 in
    let k = full c.read c.counts a.tables in
    (rw (n, p), ready-sent c (SetParams stream to) a, omega (arith, f.2, k.streams))
effect-fine c (Command kind stream) a = ready-sent c (Command kind stream) a
effect-fine c (Remap jack association sequence) a = tt
effect-fine c (Streams direction) a = tt
effect-fine c (Supported field stream) a = tt
effect-fine c (Xfer stream) a = tt
effect-fine c (Capture stream) a = tt

module _ (c : Core) (v : Verdict) (e : consistent_of c ≡ true) (room : is_good v ≡ true → Room c.stage c.counts) where
  streams-fine : (call : Call) → c.stage ≡ JacksAsked call → consistent_of (with_stage (read_to c (counted v c.counts.jacks) 0 0 false) (StreamsAsked call)) ≡ true
  unfolding consistent_of
  streams-fine call g =
      let w = counted-fine v c.counts.jacks 170 (λ h. subst (λ (k : Stage). Room k c.counts) g (room h)) in
      let ok : call_ok call ≡ true = (facts_at c (JacksAsked call) e g).call in
      rw (w, ok)

  maps-fine : (call : Call) → c.stage ≡ StreamsAsked call → is_good v ≡ true → consistent_of (with_stage (read_to c c.read.jacks c.counts.streams 0 false) (MapsAsked call)) ≡ true
  unfolding consistent_of
  maps-fine call g h =
      let a = facts_at c (StreamsAsked call) e g in
      let ok : call_ok call ≡ true = a.call in
      let w = exactly-self c.counts.streams 127 (subst (λ (k : Stage). Room k c.counts) g (room h)) in
      let j = (both (none_or_all c.read.jacks c.counts.jacks 170) (c.read.streams == 0 && c.read.maps == 0) a.tables).0 in
      rw (j, w, ok)

  all-fine : (call : Call) → c.stage ≡ MapsAsked call → tables_ok (record { jacks = c.read.jacks; streams = c.read.streams; maps = counted v c.counts.maps }) c.counts 3 ≡ true
  all-fine call g =
      let a = facts_at c (MapsAsked call) e g in
      let x = exactly c.read.streams c.counts.streams 127 in
      let b = both (none_or_all c.read.jacks c.counts.jacks 170) (x && c.read.maps == 0) a.tables in
      let j = b.0 in
      let w = (both x (c.read.maps == 0) b.1).0 in
      let m = counted-fine v c.counts.maps 170 (λ h. subst (λ (k : Stage). Room k c.counts) g (room h)) in
      rw (j, w, m)

  done-fine : (call : Call) → c.stage ≡ Sent call → consistent_of (with_stage c Idle) ≡ true
  done-fine call g =
      let a = facts_at c (Sent call) e g in
      idle-fine c (ready-sent c call a) a.tables

  pub answered-fine : {look : Look} {long : Bool} {p : Plan} → Answered c v look long p → Fine c p
  unfolding consistent_of
  answered-fine (short l) = record { consistent = e; effect = tt }
  answered-fine (idle g) = record { consistent = e; effect = tt }
  answered-fine (asks-streams {call} _ g) = record { consistent = streams-fine call g; effect = picked-by (Allowed c) (is_good v) (FillJacks c.counts.jacks) Nothing (λ _. tt) (λ _. tt) }
  answered-fine (asks-maps {call} _ g h) = record { consistent = maps-fine call g h; effect = tt }
  answered-fine (cuts x _ _ _ a) = record { consistent = refl; effect = tt }
  answered-fine (finishes {call} _ g o) =
      let f = own-fine (read_to c c.read.jacks c.read.streams (counted v c.counts.maps) true) refl (all-fine call g) (facts_at c (MapsAsked call) e g).call o in
      record { consistent = f.consistent; effect = picked-by (Allowed c) (is_good v) (FillMaps c.counts.maps) Nothing (λ _. tt) (λ _. tt) }
  answered-fine (ends {call} _ g h) = record { consistent = done-fine call g; effect = effect-fine c call (facts_at c (Sent call) e g) }
  answered-fine (fails {call} _ _ g) = record { consistent = done-fine call g; effect = tt }

fed-room : (s : Sound) (f : Feed) → is_good (verdict_of s f) ≡ true → Room s.core.stage s.core.counts
fed-room s (paged w bytes n) g = page-room w s.core.stage s.core.counts bytes g
fed-room s (failed n) g = absurd (false≢true g)

pub fed-fine : (s : Sound) (f : Feed) → consistent_of s.core ≡ true → Fine s.core (plan_of s f)
fed-fine s f e = answered-fine s.core (verdict_of s f) e (fed-room s f) (fed s f)

pub called-fine : (s : Sound) (t : Track) (call : Call) (n : ℕ) → consistent_of s.core ≡ true → Fine s.core (call_of s t call n)
called-fine s t call n e = begun-fine e (begun s t call n)
