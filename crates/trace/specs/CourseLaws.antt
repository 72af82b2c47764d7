-- The judge's walk: what a move keeps, and where the code's loop stands.
-- Assumes nothing.
use Rattle.std.specs.Prelude.{Bool, true, false, ◌≡◌, ltb, eqb, length, Option, Some, None, Result, Ok, Err}
use Rattle.std.proofs.lemmas.Bool.{false≢true}
use mathlib.Core.List.{List, [], ◌∷◌}
use Rattle.std.proofs.Math.Path.{refl, sym, ap, subst}
use Rattle.std.proofs.Common.{◌∙◌, suc-mul, mul-suc, eqb-true, eq-eqb, lt-ltb, le-ltb}
use Prim.Native.Nat.{ℕ, zero, suc, ◌+◌, ◌-◌, ◌*◌, ◌≤◌, ◌<◌}
use Rattle.std.proofs.Math.Nat.{zero-mul}
use native.Mathlib.Omega.{arith}
use Rattle.std.proofs.Math.Dec.{lit<}
use Rattle.codes.specs.Says.{guard}
use Rattle.codes.specs.SaysLaws.{guarded-by, picks, skips}
use Rattle.turns.specs.Ring.{free}
use Rattle.turns.specs.Rules.{choose_of, next_span, submit, judge_of, played_of, release}
use Rattle.turns.specs.RuleLaws.{Chosen, chosen}
use Rattle.trace.specs.PlayedLaws.{Played, played}
use Rattle.trace.specs.Field.{bytes_of, size_of}
use Rattle.trace.specs.Judge.{on, may_send, may_free, may_end, ends, agree, due_of, sent_move, freed_move, move_by, move_of, rest_by, on_by, walk_of, judged_by, judges, begun}
use Rattle.trace.specs.Fields.{field_at, more_fields, fields_from, scan_from}
use Rattle.trace.specs.FieldLaws.{field-inside}
use Rattle.trace.specs.ScanLaws.{size-bytes, size-some}
use Rattle.trace.specs.Private.{Kept, opened_of, Course}
use Rattle.trace.specs.declared.field.Field.TheVariants as field
use Rattle.trace.specs.Types.{Track, Choice, Submit, Finish, Wait, Verdict, WrongSlot, Good, Bad, Field, Stage, Opening, Out, Over, State, Judgement, BadTrace, NotARun}

wide : (h p : ℕ) → 0 < p → h ≤ h * p
wide h zero e = absurd (omega arith)
wide h (suc q) e = let m = mul-suc h q in omega (arith, m)

kept-submit : (least : ℕ) (t : Track) → least ≤ free t → t.next < t.total → Kept least t → Kept least (submit t)
kept-submit least t room more k =
    let r = k.ready in
    let m : (t.inflight + 1) * t.descriptors ≡ t.inflight * t.descriptors + t.descriptors = times t.inflight t.descriptors in
    let w = wide (t.inflight + 1) t.descriptors k.some in
    let a = k.some in
    let b = k.enough in
    let c = r.room in
    let fits : t.inflight * t.descriptors + t.descriptors ≤ 32 = omega (arith, room, a, b, c) in
    let within : t.next + next_span t ≤ t.total = omega (arith, more) in
    record {
      some = k.some;
      enough = k.enough;
      ready = record {
        room = omega (arith, m, fits);
        few = omega (arith, m, w, fits);
        head_in = omega arith;
        tail-in = r.tail-in;
        within = within;
        short = r.short;
      };
    }
  where
    times : (h p : ℕ) → (h + 1) * p ≡ h * p + p
    times h p = let e : h + 1 ≡ suc h = omega arith in ap (λ (k : ℕ). k * p) e ∙ suc-mul h p

kept-release : (least : ℕ) (t : Track) → 0 < t.inflight → Kept least t → Kept least (release t)
kept-release least t some k =
    let r = k.ready in
    let m : t.inflight * t.descriptors ≡ (t.inflight - 1) * t.descriptors + t.descriptors = times t.inflight t.descriptors some in
    let a = r.room in
    let b = r.few in
    record {
      some = k.some;
      enough = k.enough;
      ready = record {
        room = omega (arith, m, a);
        few = omega (arith, b);
        head_in = r.head_in;
        tail-in = omega arith;
        within = r.within;
        short = r.short;
      };
    }
  where
    times : (h p : ℕ) → 0 < h → h * p ≡ (h - 1) * p + p
    times zero p e = absurd (omega arith)
    times (suc h) p e = let z : h ≡ suc h - 1 = omega arith in suc-mul h p ∙ ap (λ (k : ℕ). k * p + p) z

-- on with such a track, or off within the field
abbrev pub Fine : ℕ → ℕ → Result State ℕ → Type 0
Fine least n (Ok m) = Kept least m.track
Fine least n (Err k) = k ≤ n

agree-le : (xs ys : List ℕ) → agree xs ys ≤ length xs
agree-le [] ys = omega arith
agree-le (x ∷ xs) [] = omega arith
agree-le (x ∷ xs) (y ∷ ys) = guarded-by (λ (k : ℕ). k ≤ length (x ∷ xs)) (eqb x y) 0 (suc (agree xs ys)) (λ _. let h = agree-le xs ys in omega (arith, h)) (λ _. omega arith)

module _ (least : ℕ) (t : Track) (k : Kept least t) where
  fine-sent : (slot offset len : ℕ) → least ≤ free t → t.next < t.total → Fine least 12 (sent_move t slot offset len)
  fine-sent slot offset len room more =
      let f = field.Submitted slot offset len in
      let a = agree (bytes_of f) (bytes_of (due_of t)) in
      let h = agree-le (bytes_of f) (bytes_of (due_of t)) in
      let n = size-bytes f in
      let off : a ≤ 12 = omega (arith, h, n) in
      guarded-by (Fine least 12) (eqb slot t.head) (Err a) _ (λ _.
      guarded-by (Fine least 12) (eqb offset t.next) (Err a) _ (λ _.
      guarded-by (Fine least 12) (eqb len (next_span t)) (Err a) (on Out (submit t)) (λ _. kept-submit least t room more k) (λ _. off))
      (λ _. off))
      (λ _. off)

  fine-freed : (slot status : ℕ) (v : Verdict) → Played t slot status v → Fine least 8 (freed_move v t)
  fine-freed slot status WrongSlot j = omega arith
  fine-freed slot status Good j = kept-release least t j.0 k
  fine-freed slot status (Bad a) j = kept-release least t j.0 k

  fine-by : (st : Stage) (c : Choice) → Chosen least t c → (f : Field) → Fine least (size_of f) (move_by st c t f)
  fine-by st c ch (field.Start stream total period) = omega arith
  fine-by st Submit ch (field.Submitted slot offset len) = guarded-by (Fine least 12) (may_send st Submit) (Err 0) (sent_move t slot offset len) (λ _. fine-sent slot offset len ch.0 ch.1) (λ _. omega arith)
  fine-by st Finish ch (field.Submitted slot offset len) = guarded-by (Fine least 12) (may_send st Finish) (Err 0) (sent_move t slot offset len) (λ e. absurd (false≢true e)) (λ _. omega arith)
  fine-by st Wait ch (field.Submitted slot offset len) = guarded-by (Fine least 12) (may_send st Wait) (Err 0) (sent_move t slot offset len) (λ e. absurd (false≢true e)) (λ _. omega arith)
  fine-by st c ch (field.Completed slot status) = guarded-by (Fine least 8) (may_free st c) (Err 0) (freed_move (judge_of t slot (played_of status)) t) (λ _. fine-freed slot status (judge_of t slot (played_of status)) (played t slot status)) (λ _. omega arith)
  fine-by st c ch (field.End answer) =
      guarded-by (Fine least 4) (ends st c) (Err 0) (guard (may_end st c answer) (Err 3) (on Over t))
      (λ _. guarded-by (Fine least 4) (may_end st c answer) (Err 3) (on Over t) (λ _. k) (λ _. omega arith))
      (λ _. omega arith)

  pub fine : (st : Stage) (f : Field) → Fine least (size_of f) (move_of least st t f)
  unfolding move_of
  fine st f = fine-by st (choose_of least t) (chosen least t) f

-- ---- where the loop stands

-- a field that starts a run
abbrev pub Starts : Field → Type 0
Starts (field.Start stream total period) = Unit {0}
Starts (field.Submitted slot offset len) = ⊥
Starts (field.Completed slot status) = ⊥
Starts (field.End answer) = ⊥

refuted : (b : Bool) → (b ≡ true → ⊥) → false ≡ b
refuted true h = absurd (h refl)
refuted false h = refl

-- one field more is read
step : (fuel at : ℕ) (s : List ℕ) (x : Option Field) → length s ≤ at + fuel → at ≤ length s → (at ≡ length s → ⊥) → field_at at s ≡ x
    → (k : ℕ) × (fuel ≡ suc k) × (fields_from fuel at s ≡ more_fields x at (λ p. fields_from k p s))
unfolding fields_from
step zero at s x enough inside off e = absurd (off (omega arith))
step (suc k) at s x enough inside off e =
    (k, refl, skips (eqb at (length s)) [] (more_fields (field_at at s) at (λ p. fields_from k p s)) (sym (refuted (eqb at (length s)) (λ t. off (eqb-true _ _ t)))) ∙ ap (λ (y : Option Field). more_fields y at (λ p. fields_from k p s)) e)

module _ (per : ℕ) (s : List ℕ) where
  pub opened-empty : length s ≡ 0 → Err (BadTrace 0) ≡ opened_of per s
  unfolding fields_from
  opened-empty e = ap (λ (n : ℕ). judged_by (Ok tt) per per (fields_from n 0 s)) (sym e)

  -- the first field
  first : (x : Option Field) → (0 ≡ length s → ⊥) → x ≡ field_at 0 s
      → (k : ℕ) × (length s ≡ suc k) × (opened_of per s ≡ judged_by (Ok tt) per per (more_fields x 0 (λ p. fields_from k p s)))
  first x off e =
      let p = step (length s) 0 s x (omega arith) (omega arith) off (sym e) in
      (p.0, p.1, ap (λ (l : List Field). judged_by (Ok tt) per per l) p.2)

  pub opened-bad : (x : Option Field) → (0 ≡ length s → ⊥) → x ≡ field_at 0 s → x ≡ None → Err (BadTrace 0) ≡ opened_of per s
  opened-bad x off e b = let p = first None off (sym b ∙ e) in sym p.2

  pub opened-other : (x : Option Field) (f : Field) → (Starts f → ⊥) → (0 ≡ length s → ⊥) → x ≡ field_at 0 s → x ≡ Some f → Err (NotARun 0) ≡ opened_of per s
  opened-other x (field.Start stream total period) none off e b = absurd (none tt)
  opened-other x (field.Submitted slot offset len) none off e b = let p = first (Some (field.Submitted slot offset len)) off (sym b ∙ e) in sym p.2
  opened-other x (field.Completed slot status) none off e b = let p = first (Some (field.Completed slot status)) off (sym b ∙ e) in sym p.2
  opened-other x (field.End answer) none off e b = let p = first (Some (field.End answer)) off (sym b ∙ e) in sym p.2

  module _ (stream total period : ℕ) (x : Option Field) (f : Field) (off : 0 ≡ length s → ⊥) (e : x ≡ field_at 0 s) (is : x ≡ Some f) (starts : f ≡ field.Start stream total period) where
    b : x ≡ Some (field.Start stream total period)
    b = is ∙ ap Some starts

    pub opened-none : period ≡ 0 → Err (NotARun 14) ≡ opened_of per s
    unfolding guard
    opened-none z =
        let p = first (Some (field.Start stream total period)) off (sym b ∙ e) in
        let n : period ≤ 0 = omega arith in
        sym (p.2 ∙ skips (ltb 0 period) (walk_of per Opening (begun per stream total period 0) 15 (fields_from p.0 15 s)) (Err (NotARun 14)) (le-ltb 0 period n))

    pub course-first : (t : Track) → t ≡ begun per stream total period 0 → 0 < per → (period ≡ 0 → ⊥) → total < 4294967296 → Course per s 15 Opening t
    unfolding guard
    course-first t is-begun mode ne short =
        let some : 0 < period = omega (arith, ne) in
        let p = first (Some (field.Start stream total period)) off (sym b ∙ e) in
        let h = field-inside 0 s (field.Start stream total period) (sym e ∙ b) in
        let z = zero-mul per in
        let q = p.1 in
        subst (λ (u : Track). Course per s 15 Opening u) (sym is-begun) (record {
          fuel = p.0;
          inside = h;
          enough = omega (arith, q);
          kept = record {
            some = mode;
            enough = omega arith;
            ready = record { room = omega (arith, z); few = omega arith; head_in = lit< tt; tail-in = lit< tt; within = omega arith; short = short };
          };
          same = p.2 ∙ picks (ltb 0 period) (walk_of per Opening (begun per stream total period 0) 15 (fields_from p.0 15 s)) (Err (NotARun 14)) (lt-ltb 0 period some);
        })

  module _ (at : ℕ) (st : Stage) (t : Track) (k : Course per s at st t) where
    pub course-done : (j : Judgement) → at ≡ length s → j ≡ rest_by st at → j ≡ opened_of per s
    unfolding fields_from walk_of
    course-done j e r = r ∙ sym (k.same ∙ by k.fuel)
      where
        by : (fuel : ℕ) → walk_of per st t at (fields_from fuel at s) ≡ rest_by st at
        by zero = refl
        by (suc n) = ap (λ (l : List Field). walk_of per st t at l) (picks (eqb at (length s)) [] (more_fields (field_at at s) at (λ p. fields_from n p s)) (eq-eqb at (length s) e))

    module _ (off : at ≡ length s → ⊥) (x : Option Field) (is : x ≡ field_at at s) where
      pub course-bad : (j : Judgement) → x ≡ None → j ≡ rest_by st at → j ≡ opened_of per s
      unfolding walk_of
      course-bad j b r =
          let p = step k.fuel at s None k.enough k.inside off (sym is ∙ b) in
          r ∙ sym (k.same ∙ ap (λ (l : List Field). walk_of per st t at l) p.2)

      module _ (f : Field) (b : x ≡ Some f) (m : Result State ℕ) (e : m ≡ move_of per st t f) where
        moves : (n : Result State ℕ) → m ≡ n
            → (g : ℕ) × (k.fuel ≡ suc g) × (opened_of per s ≡ on_by n at (size_of f) (λ st' t' at'. walk_of per st' t' at' (fields_from g (at + size_of f) s))) × Fine per (size_of f) n
        unfolding walk_of
        moves n q =
            let p = step k.fuel at s (Some f) k.enough k.inside off (sym is ∙ b) in (
              p.0,
              p.1,
              k.same ∙ ap (λ (l : List Field). walk_of per st t at l) p.2 ∙ ap (λ (w : Result State ℕ). on_by w at (size_of f) (λ st' t' at'. walk_of per st' t' at' (fields_from p.0 (at + size_of f) s))) (sym e ∙ q),
              subst (λ (w : Result State ℕ). Fine per (size_of f) w) (sym e ∙ q) (fine per t k.kept st f),
            )

        pub course-off : (n : ℕ) → m ≡ Err n → Err (NotARun (at + n)) ≡ opened_of per s
        course-off n q = sym (moves (Err n) q).2

        pub off-inside : (n : ℕ) → m ≡ Err n → at + n ≤ length s
        off-inside n q =
            let h = field-inside at s f (sym is ∙ b) in
            let l = (moves (Err n) q).3 in
            omega (arith, h, l)

        pub course-next : (st' : Stage) (t' : Track) (n : ℕ) → m ≡ on st' t' → n ≡ size_of f → Course per s (at + n) st' t'
        course-next st' t' n q z =
            let h = field-inside at s f (sym is ∙ b) in
            let p = moves (on st' t') q in
            let big = size-some f in
            let en = k.enough in
            let fu = p.1 in
            subst (λ (y : ℕ). Course per s (at + y) st' t') (sym z) (record { fuel = p.0; inside = h; enough = omega (arith, big, en, fu); kept = p.3; same = p.2 })

-- ---- and the scan before it

pub judges-scanned : (per : ℕ) (s : List ℕ) (j r : Judgement) → j ≡ scan_from (length s) 0 s → r ≡ judged_by j per per (fields_from (length s) 0 s) → r ≡ judges per per s
unfolding judges
judges-scanned per s j r e q = q ∙ ap (λ (x : Judgement). judged_by x per per (fields_from (length s) 0 s)) e
