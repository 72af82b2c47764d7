-- Where the judge stops: a run agrees up to that byte, and none through it.
-- Assumes nothing.
use Rattle.std.specs.Prelude.{Bool, true, false, ◌≡◌, refl, ◌⊎◌, ℕ, zero, suc, ◌+◌, ◌*◌, ◌≤◌, ◌<◌, eqb, length, get_or, take, Option, Some, None, Result, Ok, Err}
use Rattle.std.proofs.lemmas.Bool.{false≢true, eqb-false}
use mathlib.Core.List.{List, [], ◌∷◌, ◌++◌, append_assoc}
use Rattle.std.proofs.Common.{sym, ◌∙◌, inl, inr, zero-mul, arith, length-append, eq-eqb, eqb-true}
use Rattle.std.proofs.Math.Path.{ap, subst}
use Rattle.std.proofs.Math.Dec.{lit<}
use Rattle.std.proofs.Math.ListN.{drop}
use Rattle.layout.specs.Bytes.{le}
use Rattle.layout.specs.Rows.{rows_bytes}
use Rattle.codes.specs.Says.{guard}
use Rattle.turns.specs.Ring.{free}
use Rattle.turns.specs.Rules.{choose_of, next_span, sent_of, submit, judge_of, played_of, release}
use Rattle.turns.specs.RuleLaws.{Chosen, chosen}
use Rattle.trace.specs.PlayedLaws.{Played, played}
use Rattle.trace.specs.Field.{tag_of, bytes_of, Fits, size_of, trace_bytes, AllFit}
use Rattle.trace.specs.Judge.{on, may_send, may_free, may_end, ends, agree, due_of, sent_move, freed_move, move_by, move_of, rest_by, on_by, walk_of}
use Rattle.trace.specs.JudgeLaws.{may-send, send-may, may_free_lem, free-may, may-end, end-may}
use Rattle.trace.specs.Fields.{field_at}
use Rattle.trace.specs.FieldLaws.{field_found}
use Rattle.trace.specs.ScanLaws.{size-bytes, size-some}
use Rattle.trace.specs.FitLaws.{Small, small-submit, small-release}
use Rattle.trace.specs.ListLaws.{take_past, take_in, cancel, get_d-in, get_d-took, agree-take, agree-differs}
use Rattle.trace.specs.WalkLaws.{MaySend, MayFree, MayEnd, FreedBy, WalksBy, Walks}
use Rattle.trace.specs.declared.field.Field.TheVariants as field
use Rattle.trace.specs.Types.{Track, Sent, Choice, Submit, Finish, Wait, Verdict, WrongSlot, Good, Bad, Field, Stage, Opening, Out, Back, Failed, Over, State, Judgement, BadTrace, NotARun, sent_period}

-- some fields that may follow agree with the first k bytes
pub record Near (least : ℕ) (st : Stage) (t : Track) (bytes : List ℕ) (k : ℕ) : Type 0 where
  pub fields : List Field
  pub walks : Walks least st t fields
  pub fit : AllFit fields
  pub more : List ℕ
  pub same : take k bytes ++ more ≡ trace_bytes fields

-- none agree with one byte more
abbrev pub Far : ℕ → Stage → Track → List ℕ → ℕ → Type 0
Far least st t bytes k = (gs : List Field) → Walks least st t gs → AllFit gs → (z : List ℕ) → take (suc k) bytes ++ z ≡ trace_bytes gs → ⊥

-- ---- from every stage there is a way to the end

pub record Way (least : ℕ) (st : Stage) (t : Track) : Type 0 where
  pub fields : List Field
  pub walks : Walks least st t fields
  pub fit : AllFit fields

due-fits : (least : ℕ) (t : Track) → Small t → least ≤ free t → t.next < t.total → Fits (due_of t)
due-fits least t s room more =
    let low : t.head < 256 = omega (arith, s.head) in
    let off : t.next < 4294967296 = omega (arith, s.total) in
    let len : next_span t < 4294967296 = omega (arith, s.total) in
    (low, (off, (len, tt)))

nine : Fits (field.End 9)
nine = (lit< tt, tt)

way-opening : (least : ℕ) (t : Track) (c : Choice) → choose_of least t ≡ c → Chosen least t c → Small t → Way least Opening t
way-opening least t Submit e ch s =
    record {
      fields = due_of t ∷ field.End 9 ∷ [];
      walks = subst (λ (c : Choice). WalksBy least Opening c t (due_of t ∷ field.End 9 ∷ [])) (sym e) (tt, refl, (inr refl, tt));
      fit = (due-fits least t s ch.0 ch.1, (nine, tt));
    }
way-opening least t Finish e ch s =
    record { fields = field.End 0 ∷ []; walks = subst (λ (c : Choice). WalksBy least Opening c t (field.End 0 ∷ [])) (sym e) (refl, tt); fit = ((lit< tt, tt), tt) }
way-opening least t Wait e ch s =
    record { fields = field.End 9 ∷ []; walks = subst (λ (c : Choice). WalksBy least Opening c t (field.End 9 ∷ [])) (sym e) (inr refl, tt); fit = (nine, tt) }

back-nine : (c : Choice) → MayEnd Back c 9
back-nine Submit = refl
back-nine Finish = inr refl
back-nine Wait = inr refl

pub way : (least : ℕ) (st : Stage) (t : Track) → Small t → Way least st t
way least Opening t s = way-opening least t (choose_of least t) refl (chosen least t) s
way least Out t s = record { fields = field.End 9 ∷ []; walks = (inr refl, tt); fit = (nine, tt) }
way least Back t s = record { fields = field.End 9 ∷ []; walks = (back-nine (choose_of least t), tt); fit = (nine, tt) }
way least Failed t s = record { fields = field.End 2 ∷ []; walks = (refl, tt); fit = ((lit< tt, tt), tt) }
way least Over t s = record { fields = []; walks = tt; fit = tt }

near_none : (least : ℕ) (st : Stage) (t : Track) (bytes : List ℕ) → Small t → Near least st t bytes 0
near_none least st t bytes s =
    let w = way least st t s in
    record { fields = w.fields; walks = w.walks; fit = w.fit; more = trace_bytes w.fields; same = refl }

-- ---- two traces that begin with the same bytes begin with the same field

abbrev the_field : Option Field → Field
the_field (Some f) = f
the_field None = field.End 0

pub same-field : (f g : Field) (a b : List ℕ) → Fits f → Fits g → bytes_of f ++ a ≡ bytes_of g ++ b → f ≡ g
same-field f g a b p q e =
    let x : field_at 0 (bytes_of f ++ a) ≡ Some f = field_found [] a f p in
    let y : field_at 0 (bytes_of g ++ b) ≡ Some g = field_found [] b g q in
    ap the_field (sym x ∙ ap (λ (l : List ℕ). field_at 0 l) e ∙ y)

-- ---- byte by byte

pub split_at : (k : ℕ) (a y : List ℕ) → take k a ++ (drop k a ++ y) ≡ a ++ y
split_at zero a y = refl
split_at (suc k) [] y = refl
split_at (suc k) (x ∷ a) y = ap (λ (l : List ℕ). x ∷ l) (split_at k a y)

pub tag-byte : (f : Field) → get_or (bytes_of f) 0 0 ≡ tag_of f
unfolding le
tag-byte (field.Start stream total period) = refl
tag-byte (field.Submitted slot offset len) = refl
tag-byte (field.Completed slot status) = refl
tag-byte (field.End answer) = refl

slot-byte : (slot status : ℕ) → slot < 256 → get_or (bytes_of (field.Completed slot status)) 3 0 ≡ slot
unfolding le
slot-byte slot status h = omega arith

answer-byte : (answer : ℕ) → answer < 256 → get_or (bytes_of (field.End answer)) 3 0 ≡ answer
unfolding le
answer-byte answer h = omega arith

pub no_byte : (f : Field) (x z : List ℕ) (k : ℕ) → take (suc k) (bytes_of f ++ x) ++ z ≡ [] → ⊥
unfolding le
no_byte (field.Start stream total period) x z k e = let n = ap length e in omega arith
no_byte (field.Submitted slot offset len) x z k e = let n = ap length e in omega arith
no_byte (field.Completed slot status) x z k e = let n = ap length e in omega arith
no_byte (field.End answer) x z k e = let n = ap length e in omega arith

-- f and g have the first k + 1 bytes in common
abbrev pub Alike : ℕ → Field → Field → Type 0
Alike k f g = (j : ℕ) → j ≤ k → j < size_of f → j < size_of g → get_or (bytes_of f) j 0 ≡ get_or (bytes_of g) j 0

pub alike : (k : ℕ) (f g : Field) (x y z : List ℕ) → take (suc k) (bytes_of f ++ x) ++ z ≡ bytes_of g ++ y → Alike k f g
alike k f g x y z e j le f-in g-in =
    let a = size-bytes f in
    let b = size-bytes g in
    let n = length-append (bytes_of f) x in
    let lf : j < length (bytes_of f) = omega arith in
    let lg : j < length (bytes_of g) = omega arith in
    let lw : j < length (bytes_of f ++ x) = omega arith in
    let sk : j < suc k = omega arith in
    sym (get_d-in (bytes_of f) x j lf) ∙ sym (get_d-took (bytes_of f ++ x) z (suc k) j sk lw) ∙ ap (λ (l : List ℕ). get_or l j 0) e ∙ get_d-in (bytes_of g) y j lg

module _ (least : ℕ) (st : Stage) (t : Track) where
  -- no field with this tag may follow and agree
  far-by : (f : Field) (k : ℕ) (x : List ℕ) → ((g : Field) (gs : List Field) → tag_of f ≡ tag_of g → Walks least st t (g ∷ gs) → Fits g → Alike k f g → ⊥) → Far least st t (bytes_of f ++ x) k
  unfolding rows_bytes
  far-by f k x bars [] w fit z e = no_byte f x z k e
  far-by f k x bars (g ∷ gs) w fit z e =
      let like = alike k f g x (trace_bytes gs) z e in
      let a = size-some f in
      let b = size-some g in
      bars g gs (sym (tag-byte f) ∙ like 0 (omega arith) (omega arith) (omega arith) ∙ tag-byte g) w fit.0 like

  near_by : (f g : Field) (gs : List Field) (k : ℕ) (x : List ℕ) → Walks least st t (g ∷ gs) → AllFit (g ∷ gs) → take k (bytes_of f ++ x) ≡ take k (bytes_of g) → Near least st t (bytes_of f ++ x) k
  unfolding rows_bytes
  near_by f g gs k x w fit e =
      record {
        fields = g ∷ gs;
        walks = w;
        fit = fit;
        more = drop k (bytes_of g) ++ trace_bytes gs;
        same = ap (λ (l : List ℕ). l ++ (drop k (bytes_of g) ++ trace_bytes gs)) e ∙ split_at k (bytes_of g) (trace_bytes gs);
      }

-- a field that does not lead on: k of its bytes agree, and no more
pub record Parts (least : ℕ) (st : Stage) (t : Track) (f : Field) (k : ℕ) : Type 0 where
  pub inside : k < size_of f
  pub near : (x : List ℕ) → Near least st t (bytes_of f ++ x) k
  pub far : (x : List ℕ) → Far least st t (bytes_of f ++ x) k

-- ---- field by field

abbrev field_in : Sent → Field
field_in None = field.End 0
field_in (Some p) = field.Submitted p.slot p.offset p.len

abbrev is_off : Result State ℕ → ℕ
is_off (Ok m) = 0
is_off (Err k) = 1

abbrev off_by : Result State ℕ → ℕ
off_by (Ok m) = 0
off_by (Err k) = k

on-off : (st : Stage) (t : Track) (k : ℕ) → on st t ≡ Err k → ⊥
on-off st t k e = let z : ◌≡◌ {A = ℕ} 0 1 = ap is_off e in omega arith

off-guard : (b : Bool) (m : Result State ℕ) (j k : ℕ) → guard b (Err j) m ≡ Err k → ((b ≡ true) × (m ≡ Err k)) ⊎ ((b ≡ false) × (j ≡ k))
unfolding guard
off-guard true m j k e = inl (refl, e)
off-guard false m j k e = inr (refl, ap off_by e)

clash : (b : Bool) → b ≡ false → b ≡ true → ⊥
clash b p q = false≢true (sym p ∙ q)

module _ (least : ℕ) (st : Stage) (t : Track) (small : Small t) where
  -- a field with a tag that may not follow
  off-tag : (f : Field) → ((g : Field) (gs : List Field) → tag_of f ≡ tag_of g → Walks least st t (g ∷ gs) → ⊥) → Parts least st t f 0
  off-tag f bars =
      let a = size-some f in
      record { inside = omega arith; near = λ x. near_none least st t (bytes_of f ++ x) small; far = λ x. far-by least st t f 0 x (λ g gs e w _ _. bars g gs e w) }

  no_start : (stream total period : ℕ) (g : Field) (gs : List Field) → 0 ≡ tag_of g → Walks least st t (g ∷ gs) → ⊥
  no_start stream total period (field.Start a b c) gs e w = w
  no_start stream total period (field.Submitted a b c) gs e w = omega arith
  no_start stream total period (field.Completed a b) gs e w = omega arith
  no_start stream total period (field.End a) gs e w = omega arith

  no-send : may_send st (choose_of least t) ≡ false → (g : Field) (gs : List Field) → 1 ≡ tag_of g → Walks least st t (g ∷ gs) → ⊥
  no-send m (field.Start a b c) gs e w = omega arith
  no-send m (field.Submitted a b c) gs e w = clash (may_send st (choose_of least t)) m (send-may st (choose_of least t) w.0)
  no-send m (field.Completed a b) gs e w = omega arith
  no-send m (field.End a) gs e w = omega arith

  no-free : may_free st (choose_of least t) ≡ false → (g : Field) (gs : List Field) → 2 ≡ tag_of g → Walks least st t (g ∷ gs) → ⊥
  no-free m (field.Start a b c) gs e w = omega arith
  no-free m (field.Submitted a b c) gs e w = omega arith
  no-free m (field.Completed a b) gs e w = clash (may_free st (choose_of least t)) m (free-may st (choose_of least t) w.0)
  no-free m (field.End a) gs e w = omega arith

  no_end : ends st (choose_of least t) ≡ false → (g : Field) (gs : List Field) → 3 ≡ tag_of g → Walks least st t (g ∷ gs) → ⊥
  no_end m (field.Start a b c) gs e w = omega arith
  no_end m (field.Submitted a b c) gs e w = omega arith
  no_end m (field.Completed a b) gs e w = omega arith
  no_end m (field.End a) gs e w = clash (ends st (choose_of least t)) m (end-may st (choose_of least t) a w.0).1

  -- ---- a submission that is not the one due

  picked : (c : Choice) → MaySend st c → c ≡ Submit
  picked Submit m = refl
  picked Finish m = absurd m
  picked Wait m = absurd m

  due-same : (a b c : ℕ) → sent_of t ≡ sent_period a b c → field.Submitted a b c ≡ due_of t
  due-same a b c e = sym (ap field_in e)

  module _ (slot offset len : ℕ) (fit : Fits (field.Submitted slot offset len)) (may : MaySend st (choose_of least t)) (ne : field.Submitted slot offset len ≡ due_of t → ⊥) where
    abbrev f : Field
    f = field.Submitted slot offset len

    fits-due : Fits (due_of t)
    fits-due =
        let ch : Chosen least t Submit = subst (λ (c : Choice). Chosen least t c) (picked (choose_of least t) may) (chosen least t) in
        due-fits least t small ch.0 ch.1

    apart : bytes_of f ≡ bytes_of (due_of t) → ⊥
    apart e = ne (same-field f (due_of t) [] [] fit fits-due (ap (λ (l : List ℕ). l ++ []) e))

    level : length (bytes_of f) ≡ length (bytes_of (due_of t))
    level = size-bytes f ∙ sym (size-bytes (due_of t))

    not-due : (g : Field) (gs : List Field) → 1 ≡ tag_of g → Walks least st t (g ∷ gs) → Fits g → Alike (agree (bytes_of f) (bytes_of (due_of t))) f g → ⊥
    not-due (field.Start a b c) gs e w q like = omega arith
    not-due (field.Submitted a b c) gs e w q like =
        let d = agree-differs (bytes_of f) (bytes_of (due_of t)) level apart in
        let n : agree (bytes_of f) (bytes_of (due_of t)) < 12 = omega (arith, d.0, size-bytes f) in
        d.1 (like (agree (bytes_of f) (bytes_of (due_of t))) (omega arith) n n ∙ ap (λ (g : Field). get_or (bytes_of g) (agree (bytes_of f) (bytes_of (due_of t))) 0) (due-same a b c w.1))
    not-due (field.Completed a b) gs e w q like = omega arith
    not-due (field.End a) gs e w q like = omega arith

    off-sent : Parts least st t f (agree (bytes_of f) (bytes_of (due_of t)))
    off-sent =
        let k = agree (bytes_of f) (bytes_of (due_of t)) in
        let d = agree-differs (bytes_of f) (bytes_of (due_of t)) level apart in
        let n : k < 12 = omega (arith, d.0, size-bytes f) in
        let l : k ≤ length (bytes_of f) = omega (arith, d.0) in
        let w = way least Out (submit t) (small-submit t small) in
        record {
          inside = n;
          near = λ x. near_by least st t f (due_of t) w.fields k x (may, refl, w.walks) (fits-due, w.fit) (take_in (bytes_of f) x k l ∙ agree-take (bytes_of f) (bytes_of (due_of t)));
          far = λ x. far-by least st t f k x not-due;
        }

  -- ---- a completion that names another slot

  module _ (slot status : ℕ) (fit : Fits (field.Completed slot status)) (may : MayFree st (choose_of least t)) (held : 0 < t.inflight) (stranger : judge_of t slot (played_of status) ≡ WrongSlot) where
    other : slot ≡ t.tail → ⊥
    other e = subst (Played t slot status) stranger (played t slot status) held e

    named : (v : Verdict) (s x : ℕ) (A B : Type 0) → Played t s x v → FreedBy v A B → s ≡ t.tail
    named WrongSlot s x A B j w = absurd w
    named Good s x A B j w = j.1
    named (Bad a) s x A B j w = j.1

    not-oldest : (g : Field) (gs : List Field) → 2 ≡ tag_of g → Walks least st t (g ∷ gs) → Fits g → Alike 3 (field.Completed slot status) g → ⊥
    not-oldest (field.Start a b c) gs e w q like = omega arith
    not-oldest (field.Submitted a b c) gs e w q like = omega arith
    not-oldest (field.Completed a b) gs e w q like =
        other
        (sym (slot-byte slot status fit.0) ∙ like 3 (omega arith) (omega arith) (omega arith) ∙ slot-byte a b q.0
        ∙ named (judge_of t a (played_of b)) a b (Walks least Back (release t) gs) (Walks least Failed (release t) gs) (played t a b) w.1)
    not-oldest (field.End a) gs e w q like = omega arith

    oldest-good : judge_of t t.tail (played_of 0x8000) ≡ Good
    oldest-good = by (judge_of t t.tail (played_of 0x8000)) (played t t.tail 0x8000)
      where
        by : (v : Verdict) → Played t t.tail 0x8000 v → v ≡ Good
        by WrongSlot j = absurd (j held refl)
        by Good j = refl
        by (Bad a) j = absurd (j.2 refl)

    off-freed : Parts least st t (field.Completed slot status) 3
    unfolding le
    off-freed =
        let w = way least Back (release t) (small-release t small) in
        let low : t.tail < 256 = omega (arith, small.tail) in
        let walks = subst (λ (v : Verdict). FreedBy v (Walks least Back (release t) w.fields) (Walks least Failed (release t) w.fields)) (sym oldest-good) w.walks in
        record {
          inside = lit< tt;
          near = λ x. near_by least st t (field.Completed slot status) (field.Completed t.tail 0x8000) w.fields 3 x (may, walks) ((low, (lit< tt, tt)), w.fit) refl;
          far = λ x. far-by least st t (field.Completed slot status) 3 x not-oldest;
        }

  -- ---- an end with another answer

  some_end : (s : Stage) (c : Choice) → ends s c ≡ true → (a : ℕ) × MayEnd s c a × (a < 256)
  some_end Opening Submit e = absurd (false≢true e)
  some_end Opening Finish e = (0, refl, lit< tt)
  some_end Opening Wait e = (9, inr refl, lit< tt)
  some_end Out c e = (9, inr refl, lit< tt)
  some_end Back Submit e = (9, refl, lit< tt)
  some_end Back Finish e = (9, inr refl, lit< tt)
  some_end Back Wait e = (9, inr refl, lit< tt)
  some_end Failed c e = (2, refl, lit< tt)
  some_end Over c e = absurd (false≢true e)

  module _ (answer : ℕ) (fit : Fits (field.End answer)) (known : ends st (choose_of least t) ≡ true) (bad : may_end st (choose_of least t) answer ≡ false) where
    not_end : (g : Field) (gs : List Field) → 3 ≡ tag_of g → Walks least st t (g ∷ gs) → Fits g → Alike 3 (field.End answer) g → ⊥
    not_end (field.Start a b c) gs e w q like = omega arith
    not_end (field.Submitted a b c) gs e w q like = omega arith
    not_end (field.Completed a b) gs e w q like = omega arith
    not_end (field.End a) gs e w q like =
        let same : answer ≡ a = sym (answer-byte answer fit.0) ∙ like 3 (omega arith) (omega arith) (omega arith) ∙ answer-byte a q.0 in
        clash (may_end st (choose_of least t) answer) bad (ap (λ (n : ℕ). may_end st (choose_of least t) n) same ∙ (end-may st (choose_of least t) a w.0).0)

    off-end : Parts least st t (field.End answer) 3
    unfolding le
    off-end =
        let k = some_end st (choose_of least t) known in
        record {
          inside = lit< tt;
          near = λ x. near_by least st t (field.End answer) (field.End k.0) [] 3 x (k.1, tt) ((k.2, tt), tt) refl;
          far = λ x. far-by least st t (field.End answer) 3 x not_end;
        }

-- ---- one field: it leads on, or stops

split : {A B C : Type 0} → A ⊎ B → (A → C) → (B → C) → C
split (inl a) f g = f a
split (inr b) f g = g b

-- after a submission something is in flight
abbrev pub HeldOk : Stage → Track → Type 0
HeldOk Out t = 0 < t.inflight
HeldOk Opening t = Unit {0}
HeldOk Back t = Unit {0}
HeldOk Failed t = Unit {0}
HeldOk Over t = Unit {0}

some-held : (least : ℕ) (t : Track) → least ≤ 32 → (least ≤ free t → t.inflight ≡ 0 → ⊥) → 0 < t.inflight
some-held least t le no-held = by t.inflight refl
  where
    by : (n : ℕ) → t.inflight ≡ n → 0 < t.inflight
    by zero e =
        let z : t.inflight * t.descriptors ≡ 0 = ap (λ (h : ℕ). h * t.descriptors) e ∙ zero-mul t.descriptors in
        let room : least ≤ free t = omega arith in
        absurd (no-held room e)
    by (suc n) e = omega arith

free-held : (least : ℕ) (st : Stage) (t : Track) (c : Choice) → Chosen least t c → MayFree st c → HeldOk st t → least ≤ 32 → 0 < t.inflight
free-held least Out t c ch m h le = h
free-held least Opening t Wait ch m h le = some-held least t le ch.1
free-held least Opening t Submit ch m h le = absurd m
free-held least Opening t Finish ch m h le = absurd m
free-held least Back t Wait ch m h le = some-held least t le ch.1
free-held least Back t Submit ch m h le = absurd m
free-held least Back t Finish ch m h le = absurd m
free-held least Failed t c ch m h le = absurd m
free-held least Over t c ch m h le = absurd m

abbrev slot_of : Field → ℕ
slot_of (field.Start a b c) = 0
slot_of (field.Submitted a b c) = a
slot_of (field.Completed a b) = 0
slot_of (field.End a) = 0

abbrev offset_of : Field → ℕ
offset_of (field.Start a b c) = 0
offset_of (field.Submitted a b c) = b
offset_of (field.Completed a b) = 0
offset_of (field.End a) = 0

abbrev len_of : Field → ℕ
len_of (field.Start a b c) = 0
len_of (field.Submitted a b c) = c
len_of (field.Completed a b) = 0
len_of (field.End a) = 0

module _ (least : ℕ) (few : least ≤ 32) (st : Stage) (t : Track) (small : Small t) (held : HeldOk st t) where
  abbrev P : Field → ℕ → Type 0
  P f k = Parts least st t f k

  stop-sent : (slot offset len k : ℕ) → Fits (field.Submitted slot offset len) → MaySend st (choose_of least t) → sent_move t slot offset len ≡ Err k → P (field.Submitted slot offset len) k
  stop-sent slot offset len k fit may e =
      let f = field.Submitted slot offset len in
      let j = agree (bytes_of f) (bytes_of (due_of t)) in
      let parts : (f ≡ due_of t → ⊥) → j ≡ k → P f k = λ ne q. subst (λ (n : ℕ). P f n) q (off-sent least st t small slot offset len fit may ne) in
      let in_len : Result State ℕ = guard (eqb len (next_span t)) (Err j) (on Out (submit t)) in
      let in-off : Result State ℕ = guard (eqb offset t.next) (Err j) in_len in
      split (off-guard (eqb slot t.head) in-off j k e)
      (λ a. split (off-guard (eqb offset t.next) in_len j k a.1)
      (λ b. split (off-guard (eqb len (next_span t)) (on Out (submit t)) j k b.1)
      (λ c. absurd (on-off Out (submit t) k c.1))
      (λ c. parts (λ z. eqb-false _ _ c.0 (ap len_of z)) c.1))
      (λ b. parts (λ z. eqb-false _ _ b.0 (ap offset_of z)) b.1))
      (λ a. parts (λ z. eqb-false _ _ a.0 (ap slot_of z)) a.1)

  stop-freed : (slot status k : ℕ) (v : Verdict) → judge_of t slot (played_of status) ≡ v → Fits (field.Completed slot status) → MayFree st (choose_of least t) → freed_move v t ≡ Err k → P (field.Completed slot status) k
  stop-freed slot status k WrongSlot q fit may e =
      subst (λ (n : ℕ). P (field.Completed slot status) n) (ap off_by e) (off-freed least st t small slot status fit may (free-held least st t (choose_of least t) (chosen least t) may held few) q)
  stop-freed slot status k Good q fit may e = absurd (on-off Back (release t) k e)
  stop-freed slot status k (Bad a) q fit may e = absurd (on-off Failed (release t) k e)

  -- a field that stops
  stop : (f : Field) (k : ℕ) → Fits f → move_by st (choose_of least t) t f ≡ Err k → P f k
  stop (field.Start stream total period) k fit e = subst (λ (n : ℕ). P (field.Start stream total period) n) (ap off_by e) (off-tag least st t small (field.Start stream total period) (no_start least st t small stream total period))
  stop (field.Submitted slot offset len) k fit e =
      split (off-guard (may_send st (choose_of least t)) (sent_move t slot offset len) 0 k e)
      (λ a. stop-sent slot offset len k fit (may-send st (choose_of least t) a.0) a.1)
      (λ a. subst (λ (n : ℕ). P (field.Submitted slot offset len) n) a.1 (off-tag least st t small (field.Submitted slot offset len) (no-send least st t small a.0)))
  stop (field.Completed slot status) k fit e =
      split (off-guard (may_free st (choose_of least t)) (freed_move (judge_of t slot (played_of status)) t) 0 k e)
      (λ a. stop-freed slot status k (judge_of t slot (played_of status)) refl fit (may_free_lem st (choose_of least t) a.0) a.1)
      (λ a. subst (λ (n : ℕ). P (field.Completed slot status) n) a.1 (off-tag least st t small (field.Completed slot status) (no-free least st t small a.0)))
  stop (field.End answer) k fit e =
      split (off-guard (ends st (choose_of least t)) (guard (may_end st (choose_of least t) answer) (Err 3) (on Over t)) 0 k e)
      (λ a. split (off-guard (may_end st (choose_of least t) answer) (on Over t) 3 k a.1)
      (λ b. absurd (on-off Over t k b.1))
      (λ b. subst (λ (n : ℕ). P (field.End answer) n) b.1 (off-end least st t small answer fit a.0 b.0)))
      (λ a. subst (λ (n : ℕ). P (field.End answer) n) a.1 (off-tag least st t small (field.End answer) (no_end least st t small a.0)))

-- ---- a field that leads on

abbrev Walked : ℕ → Result State ℕ → List Field → Type 0
Walked least (Ok m) gs = Walks least m.stage m.track gs
Walked least (Err k) gs = ⊥

abbrev Kept : Result State ℕ → Type 0
Kept (Ok m) = Small m.track × HeldOk m.stage m.track
Kept (Err k) = Unit {0}

guard-walked : (least : ℕ) (b : Bool) (m : Result State ℕ) (j : ℕ) (gs : List Field) → Walked least (guard b (Err j) m) gs → (b ≡ true) × Walked least m gs
unfolding guard
guard-walked least true m j gs w = (refl, w)
guard-walked least false m j gs w = absurd w

walked-guard : (least : ℕ) (b : Bool) (m : Result State ℕ) (j : ℕ) (gs : List Field) → b ≡ true → Walked least m gs → Walked least (guard b (Err j) m) gs
unfolding guard
walked-guard least true m j gs p w = w
walked-guard least false m j gs p w = absurd (false≢true p)

guard-kept : (b : Bool) (m : Result State ℕ) (j : ℕ) → Kept m → Kept (guard b (Err j) m)
unfolding guard
guard-kept true m j k = k
guard-kept false m j k = tt

freed-forth : (least : ℕ) (t : Track) (gs : List Field) (v : Verdict) → FreedBy v (Walks least Back (release t) gs) (Walks least Failed (release t) gs) → Walked least (freed_move v t) gs
freed-forth least t gs WrongSlot w = absurd w
freed-forth least t gs Good w = w
freed-forth least t gs (Bad a) w = w

freed-back : (least : ℕ) (t : Track) (gs : List Field) (v : Verdict) → Walked least (freed_move v t) gs → FreedBy v (Walks least Back (release t) gs) (Walks least Failed (release t) gs)
freed-back least t gs WrongSlot w = absurd w
freed-back least t gs Good w = w
freed-back least t gs (Bad a) w = w

freed-kept : (t : Track) (v : Verdict) → Small t → Kept (freed_move v t)
freed-kept t WrongSlot s = tt
freed-kept t Good s = (small-release t s, tt)
freed-kept t (Bad a) s = (small-release t s, tt)

module _ (least : ℕ) (st : Stage) (t : Track) where
  forth : (f : Field) (gs : List Field) → Walks least st t (f ∷ gs) → Walked least (move_by st (choose_of least t) t f) gs
  forth (field.Start stream total period) gs w = w
  forth (field.Submitted slot offset len) gs w =
      let j = agree (bytes_of (field.Submitted slot offset len)) (bytes_of (due_of t)) in
      let p = sym (ap field_in w.1) in
      walked-guard least (may_send st (choose_of least t)) (sent_move t slot offset len) 0 gs (send-may st (choose_of least t) w.0)
      (walked-guard least (eqb slot t.head) (guard (eqb offset t.next) (Err j) (guard (eqb len (next_span t)) (Err j) (on Out (submit t)))) j gs (eq-eqb _ _ (ap slot_of p))
      (walked-guard least (eqb offset t.next) (guard (eqb len (next_span t)) (Err j) (on Out (submit t))) j gs (eq-eqb _ _ (ap offset_of p))
      (walked-guard least (eqb len (next_span t)) (on Out (submit t)) j gs (eq-eqb _ _ (ap len_of p)) w.2)))
  forth (field.Completed slot status) gs w =
      walked-guard least (may_free st (choose_of least t)) (freed_move (judge_of t slot (played_of status)) t) 0 gs (free-may st (choose_of least t) w.0) (freed-forth least t gs (judge_of t slot (played_of status)) w.1)
  forth (field.End answer) gs w =
      let m = end-may st (choose_of least t) answer w.0 in
      walked-guard least (ends st (choose_of least t)) (guard (may_end st (choose_of least t) answer) (Err 3) (on Over t)) 0 gs m.1
      (walked-guard least (may_end st (choose_of least t) answer) (on Over t) 3 gs m.0 w.1)

  back : (f : Field) (gs : List Field) → Walked least (move_by st (choose_of least t) t f) gs → Walks least st t (f ∷ gs)
  back (field.Start stream total period) gs w = w
  back (field.Submitted slot offset len) gs w =
      let j = agree (bytes_of (field.Submitted slot offset len)) (bytes_of (due_of t)) in
      let a = guard-walked least (may_send st (choose_of least t)) (sent_move t slot offset len) 0 gs w in
      let b = guard-walked least (eqb slot t.head) (guard (eqb offset t.next) (Err j) (guard (eqb len (next_span t)) (Err j) (on Out (submit t)))) j gs a.1 in
      let c = guard-walked least (eqb offset t.next) (guard (eqb len (next_span t)) (Err j) (on Out (submit t))) j gs b.1 in
      let d = guard-walked least (eqb len (next_span t)) (on Out (submit t)) j gs c.1 in
      let p = eqb-true slot t.head b.0 in
      let q = eqb-true offset t.next c.0 in
      let r = eqb-true len (next_span t) d.0 in
      (may-send st (choose_of least t) a.0, (λ i. sent_period (sym p i) (sym q i) (sym r i)), d.1)
  back (field.Completed slot status) gs w =
      let a = guard-walked least (may_free st (choose_of least t)) (freed_move (judge_of t slot (played_of status)) t) 0 gs w in
      (may_free_lem st (choose_of least t) a.0, freed-back least t gs (judge_of t slot (played_of status)) a.1)
  back (field.End answer) gs w =
      let a = guard-walked least (ends st (choose_of least t)) (guard (may_end st (choose_of least t) answer) (Err 3) (on Over t)) 0 gs w in
      let b = guard-walked least (may_end st (choose_of least t) answer) (on Over t) 3 gs a.1 in
      (may-end st (choose_of least t) answer b.0, b.1)

  kept : (f : Field) → Small t → Kept (move_by st (choose_of least t) t f)
  kept (field.Start stream total period) s = tt
  kept (field.Submitted slot offset len) s =
      let j = agree (bytes_of (field.Submitted slot offset len)) (bytes_of (due_of t)) in
      let h : 0 < t.inflight + 1 = omega arith in
      guard-kept (may_send st (choose_of least t)) (sent_move t slot offset len) 0
      (guard-kept (eqb slot t.head) (guard (eqb offset t.next) (Err j) (guard (eqb len (next_span t)) (Err j) (on Out (submit t)))) j
      (guard-kept (eqb offset t.next) (guard (eqb len (next_span t)) (Err j) (on Out (submit t))) j
      (guard-kept (eqb len (next_span t)) (on Out (submit t)) j (small-submit t s, h))))
  kept (field.Completed slot status) s = guard-kept (may_free st (choose_of least t)) (freed_move (judge_of t slot (played_of status)) t) 0 (freed-kept t (judge_of t slot (played_of status)) s)
  kept (field.End answer) s =
      guard-kept (ends st (choose_of least t)) (guard (may_end st (choose_of least t) answer) (Err 3) (on Over t)) 0 (guard-kept (may_end st (choose_of least t) answer) (on Over t) 3 (s, tt))

-- ---- field after field

-- the judge stops k bytes behind the offset where it stands
pub record Stops (least : ℕ) (st : Stage) (t : Track) (at : ℕ) (fs : List Field) (x : ℕ) : Type 0 where
  pub k : ℕ
  pub place : x ≡ at + k
  pub inside : k ≤ length (trace_bytes fs)
  pub near : Near least st t (trace_bytes fs) k
  pub far : k < length (trace_bytes fs) → Far least st t (trace_bytes fs) k

abbrev number_in : Judgement → ℕ
number_in (Ok u) = 0
number_in (Err (BadTrace at)) = 18
number_in (Err (NotARun at)) = 19

abbrev place_in : Judgement → ℕ
place_in (Ok u) = 0
place_in (Err (BadTrace at)) = at
place_in (Err (NotARun at)) = at

stops-early : (least : ℕ) (st : Stage) (t : Track) (at x : ℕ) → Small t → rest_by st at ≡ Err (NotARun x) → Stops least st t at [] x
unfolding rows_bytes
stops-early least st t at x s e =
    by st e
  where
    by : (u : Stage) → rest_by u at ≡ Err (NotARun x) → Stops least st t at [] x
    by Over q = let z : ◌≡◌ {A = ℕ} 0 19 = ap number_in q in absurd (omega arith)
    by Opening q = let p : at ≡ x = ap place_in q in record { k = 0; place = omega arith; inside = omega arith; near = near_none least st t [] s; far = λ h. absurd (omega arith) }
    by Out q = let p : at ≡ x = ap place_in q in record { k = 0; place = omega arith; inside = omega arith; near = near_none least st t [] s; far = λ h. absurd (omega arith) }
    by Back q = let p : at ≡ x = ap place_in q in record { k = 0; place = omega arith; inside = omega arith; near = near_none least st t [] s; far = λ h. absurd (omega arith) }
    by Failed q = let p : at ≡ x = ap place_in q in record { k = 0; place = omega arith; inside = omega arith; near = near_none least st t [] s; far = λ h. absurd (omega arith) }

stops-here : (least : ℕ) (st : Stage) (t : Track) (at x k : ℕ) (f : Field) (fs : List Field) → at + k ≡ x → Parts least st t f k → Stops least st t at (f ∷ fs) x
unfolding rows_bytes
stops-here least st t at x k f fs e p =
    let n = length-append (bytes_of f) (trace_bytes fs) in
    let m = size-bytes f in
    let i = p.inside in
    record { k = k; place = sym e; inside = omega arith; near = p.near (trace_bytes fs); far = λ _. p.far (trace_bytes fs) }

stops-later : (least : ℕ) (st u : Stage) (t v : Track) (at x : ℕ) (f : Field) (fs : List Field) → Fits f
    → ((gs : List Field) → Walks least st t (f ∷ gs) → Walks least u v gs) → ((gs : List Field) → Walks least u v gs → Walks least st t (f ∷ gs))
    → Stops least u v (at + size_of f) fs x → Stops least st t at (f ∷ fs) x
unfolding rows_bytes
stops-later least st u t v at x f fs fit fwd bwd s =
    let n = length-append (bytes_of f) (trace_bytes fs) in
    let m = size-bytes f in
    let i = s.inside in
    let p = s.place in
    let near = s.near in
    let j = size_of f + s.k in
    let past : (q : ℕ) → take (size_of f + q) (bytes_of f ++ trace_bytes fs) ≡ bytes_of f ++ take q (trace_bytes fs)
    = λ q. ap (λ (z : ℕ). take (z + q) (bytes_of f ++ trace_bytes fs)) (sym m) ∙ take_past (bytes_of f) (trace_bytes fs) q in
    record {
      k = j;
      place = omega arith;
      inside = omega arith;
      near =
          record {
            fields = f ∷ near.fields;
            walks = bwd near.fields near.walks;
            fit = (fit, near.fit);
            more = near.more;
            same =
                ap (λ (l : List ℕ). l ++ near.more) (past s.k)
                ∙ append_assoc (bytes_of f) (take s.k (trace_bytes fs)) near.more
                ∙ ap (λ (l : List ℕ). bytes_of f ++ l) near.same;
          };
      far = λ h gs w g-fit z e.
          let less : s.k < length (trace_bytes fs) = omega arith in
          let one : suc j ≡ size_of f + suc s.k = omega arith in
          let e' : bytes_of f ++ (take (suc s.k) (trace_bytes fs) ++ z) ≡ trace_bytes gs
          = sym (append_assoc (bytes_of f) (take (suc s.k) (trace_bytes fs)) z)
          ∙ ap (λ (l : List ℕ). l ++ z) (sym (past (suc s.k)) ∙ ap (λ (q : ℕ). take q (bytes_of f ++ trace_bytes fs)) (sym one))
          ∙ e in
          far-on gs (take (suc s.k) (trace_bytes fs) ++ z) w g-fit (λ gs' w' fit' e''. s.far less gs' w' fit' z e'') e';
    }
  where
    far-on : (gs : List Field) (y : List ℕ) → Walks least st t gs → AllFit gs → ((gs' : List Field) → Walks least u v gs' → AllFit gs' → y ≡ trace_bytes gs' → ⊥) → bytes_of f ++ y ≡ trace_bytes gs → ⊥
    far-on [] y w g-fit deeper e = let q = length-append (bytes_of f) y in let m = size-bytes f in let b = size-some f in let z = ap length e in omega arith
    far-on (g ∷ gs) y w g-fit deeper e =
        let same : f ≡ g = same-field f g y (trace_bytes gs) fit g-fit.0 e in
        deeper gs (fwd gs (subst (λ (h : Field). Walks least st t (h ∷ gs)) (sym same) w)) g-fit.1
        (cancel (bytes_of f) y (trace_bytes gs) (e ∙ ap (λ (h : Field). bytes_of h ++ trace_bytes gs) (sym same)))

pub stops : (least : ℕ) → least ≤ 32 → (fs : List Field) (st : Stage) (t : Track) (at x : ℕ) → AllFit fs → Small t → HeldOk st t → walk_of least st t at fs ≡ Err (NotARun x) → Stops least st t at fs x
unfolding walk_of move_of
stops least few [] st t at x fit s h e = stops-early least st t at x s e
stops least few (f ∷ fs) st t at x fit s h e =
    moved (move_by st (choose_of least t) t f) refl e
    (λ k m q. stops-here least st t at x k f fs q (stop least few st t s h f k fit.0 m))
    (λ u v m q.
    let kp : Small v × HeldOk u v = subst Kept m (kept least st t f s) in
    stops-later least st u t v at x f fs fit.0
    (λ gs w. subst (λ (n : Result State ℕ). Walked least n gs) m (forth least st t f gs w))
    (λ gs w. back least st t f gs (subst (λ (n : Result State ℕ). Walked least n gs) (sym m) w))
    (stops least few fs u v (at + size_of f) x fit.1 kp.0 kp.1 q))
  where
    moved : {C : Type 0} (m : Result State ℕ) → move_by st (choose_of least t) t f ≡ m → on_by m at (size_of f) (λ a b c. walk_of least a b c fs) ≡ Err (NotARun x)
        → ((k : ℕ) → move_by st (choose_of least t) t f ≡ Err k → at + k ≡ x → C)
        → ((u : Stage) (v : Track) → move_by st (choose_of least t) t f ≡ on u v → walk_of least u v (at + size_of f) fs ≡ Err (NotARun x) → C) → C
    moved (Err k) m q off on = off k m (ap place_in q)
    moved (Ok w) m q off on = on w.stage w.track m q
