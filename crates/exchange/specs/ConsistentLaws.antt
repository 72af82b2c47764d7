-- What the consistency test says of a core at its stage, as facts, and back.
-- Assumes nothing.
use Rattle.std.specs.Prelude.{◌≡◌, ℕ, ◌%◌, ◌<◌, ◌≤◌, Bool, true, false, ◌&&◌, ◌||◌, ◌==◌, nat_le, refl}
use Rattle.std.proofs.Common.{sym, subst, pos_of_ne-zero, leb-true, le-leb, ltb-true, eqb-true, eq-eqb}
use Rattle.std.proofs.lemmas.Bool.{false≢true, eqb-false}
use Rattle.codes.specs.Says.{pick}
use Rattle.turns.specs.ConsistentLaws.{both}
use Rattle.sound_core.specs.Consistent.{period_ok, numbers_ok, stage_ok, queries_answered, exactly, none_or_all, tables_ok, both_or_neither, consistent_of}
use Rattle.exchange.specs.Types.{Counts, Params, Call, SetParams, Stage, Idle, JacksAsked, StreamsAsked, MapsAsked, Sent, Core}
use Rattle.exchange.specs.Feed.{asking}

pub both_of : (a b : Bool) → a ≡ true → b ≡ true → (a && b) ≡ true
both_of a b p q = rw (p, q)

pub either-of : (a b : Bool) → b ≡ true → (a || b) ≡ true
either-of true b e = refl
either-of false b e = e

-- ---- the test at a stage: with the stage a constructor, each part computes

pub record At (c : Core) (g : Stage) : Type 0 where
  pub done : both_or_neither c.ready (queries_answered g c.ready == 3) ≡ true
  pub tables : tables_ok c.read c.counts (queries_answered g c.ready) ≡ true
  pub call : stage_ok c.guard g c.read.streams ≡ true

pub facts : (c : Core) → consistent_of c ≡ true → At c c.stage
unfolding consistent_of
facts c e =
    let b = both _ _ e in
    let d = both _ _ b.1 in
    record { done = b.0; tables = d.0; call = d.1 }

pub facts_at : (c : Core) (g : Stage) → consistent_of c ≡ true → c.stage ≡ g → At c g
facts_at c g e p = subst (λ (k : Stage). At c k) p (facts c e)

pub passed : (c : Core) → At c c.stage → consistent_of c ≡ true
unfolding consistent_of
passed c a = rw (a.done, a.tables, a.call)

-- ---- whether set-up is done

same_true : (r : Bool) → both_or_neither r true ≡ true → r ≡ true
same_true true e = refl
same_true false e = e

same_false : (r : Bool) → both_or_neither r false ≡ true → r ≡ false
same_false true e = sym e
same_false false e = refl

pub ready-sent : (c : Core) (call : Call) → At c (Sent call) → c.ready ≡ true
ready-sent c call a = same_true c.ready a.done

pub not-ready : (c : Core) (g : Stage) → At c g → asking g ≡ true → c.ready ≡ false
not-ready c Idle a e = absurd (false≢true e)
not-ready c (JacksAsked call) a e = same_false c.ready a.done
not-ready c (StreamsAsked call) a e = same_false c.ready a.done
not-ready c (MapsAsked call) a e = same_false c.ready a.done
not-ready c (Sent call) a e = absurd (false≢true e)

ready_at : (c : Core) (g : Stage) → At c g → c.ready ≡ true → tables_ok c.read c.counts 3 ≡ true
ready_at c Idle a r = rw r at a.tables
ready_at c (JacksAsked call) a r = absurd (false≢true (rw r at a.done))
ready_at c (StreamsAsked call) a r = absurd (false≢true (rw r at a.done))
ready_at c (MapsAsked call) a r = absurd (false≢true (rw r at a.done))
ready_at c (Sent call) a r = a.tables

-- once set-up is done the tables are as configured
pub ready-tables : (c : Core) → consistent_of c ≡ true → c.ready ≡ true → tables_ok c.read c.counts 3 ≡ true
ready-tables c e r = ready_at c c.stage (facts c e) r

-- ---- the tables

pub record Full (read counts : Counts) : Type 0 where
  pub streams : read.streams ≡ counts.streams
  pub most : read.streams ≤ 127

pub full : (read counts : Counts) → tables_ok read counts 3 ≡ true → Full read counts
full read counts e =
    let a = none_or_all read.jacks counts.jacks 170 in
    let m = none_or_all read.maps counts.maps 170 in
    let x = exactly read.streams counts.streams 127 in
    let b = both _ _ (both x m (both a (x && m) e).1).0 in
    record { streams = eqb-true _ _ b.0; most = leb-true _ _ b.1 }

pub exactly-self : (n most : ℕ) → n ≤ most → exactly n n most ≡ true
exactly-self n most h = both_of (n == n) (nat_le n most) (eq-eqb n n refl) (le-leb n most h)

pub none_or_all-self : (n most : ℕ) → n ≤ most → none_or_all n n most ≡ true
none_or_all-self n most h = either-of (n == 0) (exactly n n most) (exactly-self n most h)

-- ---- parameters

pub record Paced (p : Params) : Type 0 where
  pub some : 0 < p.period
  pub within : p.period ≤ p.buffer
  pub whole : p.buffer % p.period ≡ 0

paced-by : (p : Params) (z : Bool) → (p.period == 0) ≡ z → pick z false (nat_le p.period p.buffer && p.buffer % p.period == 0) ≡ true → Paced p
paced-by p true z e = absurd (false≢true e)
paced-by p false z e =
    let b = both _ _ e in
    let n : p.period ≡ 0 → ⊥ = eqb-false p.period 0 z in
    record { some = pos_of_ne-zero n; within = leb-true _ _ b.0; whole = eqb-true _ _ b.1 }

pub period-facts : (p : Params) → period_ok p.buffer p.period ≡ true → Paced p
period-facts p e = paced-by p _ refl e

-- what a call that is out has passed
pub sent-facts : (c : Core) (stream : ℕ) (to : Params) → At c (Sent (SetParams stream to)) → (numbers_ok to ≡ true) × (period_ok to.buffer to.period ≡ true) × (stream < c.read.streams)
sent-facts c stream to a =
    let b = both _ _ a.call in
    let d = both _ _ b.1 in
    (b.0, d.0, ltb-true _ _ d.1)
