-- What the consistency test says of a track, as facts, and back.
-- Assumes nothing.
use Rattle.std.specs.Prelude.{ℕ, ◌+◌, ◌*◌, ◌%◌, ◌≤◌, ◌<◌, ◌≡◌, refl, Bool, true, false, ◌&&◌, ◌||◌, not, ltb, eqb}
use Rattle.std.proofs.Common.{le-div_iff_mul-le, inl, inr, arith, sym, ◌∙◌, lt-ltb, ltb-true, ltb-false, le-leb, leb-true, eq-eqb, ne_eqb, eqb-true}
use Rattle.std.proofs.lemmas.Bool.{false≢true}
use Rattle.turns.specs.Ring.{direct, indirect, most_of}
use Rattle.turns.specs.Consistent.{mode_ok, placed_of, paced_of, kept_of, good_of, consistent_of}
use Rattle.turns.specs.Types.{Track}
use Rattle.turns.specs.Private.{Mode, Placed}

pub record Paced (t : Track) : Type 0 where
  pub within : t.next ≤ t.total
  pub some : t.running ≡ true → 0 < t.period
  pub left : t.running ≡ true → t.turns < t.budget

pub both : (a b : Bool) → (a && b) ≡ true → (a ≡ true) × (b ≡ true)
both true b e = (refl, e)
both false b e = absurd (false≢true e)

either : (run p t : Bool) → (not run || (p && t)) ≡ true → run ≡ true → (p ≡ true) × (t ≡ true)
either true p t e h = both p t e
either false p t e h = absurd (false≢true h)

-- a test that cannot hold fails
pub refuted : (b : Bool) → (b ≡ true → ⊥) → false ≡ b
refuted true h = absurd (h refl)
refuted false h = refl

mode-by : (d : ℕ) (a b : Bool) → eqb d direct ≡ a → eqb d indirect ≡ b → (a || b) ≡ true → Mode d
mode-by d true b p q e = inl (eqb-true _ _ p)
mode-by d false true p q e = inr (eqb-true _ _ q)
mode-by d false false p q e = absurd (false≢true e)

pub mode-facts : (d : ℕ) → mode_ok d ≡ true → Mode d
mode-facts d e = mode-by d _ _ refl refl e

pub mode-true : (d : ℕ) → Mode d → mode_ok d ≡ true
mode-true d (inl e) = rw (eq-eqb _ _ e)
mode-true d (inr e) = or-true (eqb d direct) (eqb d indirect) (eq-eqb _ _ e)
  where
    or-true : (a b : Bool) → b ≡ true → (a || b) ≡ true
    or-true true b e = refl
    or-true false b e = e

-- as the code asks: the one, and then the other
pub mode-direct : (d : ℕ) → d ≡ direct → true ≡ mode_ok d
mode-direct d e = rw (eq-eqb _ _ e)

pub mode-last : (d : ℕ) (b : Bool) → (d ≡ direct → ⊥) → b ≡ eqb d indirect → b ≡ mode_ok d
mode-last d b n e = rw (ne_eqb _ _ n) e

-- either number is above 0 and at most 3
pub mode_small : (d : ℕ) → Mode d → (0 < d) × (d ≤ 3)
mode_small d (inl e) = (omega arith, omega arith)
mode_small d (inr e) = (omega arith, omega arith)

pub placed-facts : (t : Track) → placed_of t ≡ true → Placed t
unfolding placed_of
placed-facts t e =
    let e₁ = both _ _ e in
    let e₂ = both _ _ e₁.1 in
    let e₃ = both _ _ e₂.1 in
    let e₄ = both _ _ e₃.1 in
    record {
      mode = mode-facts t.descriptors e₁.0;
      head_in = ltb-true _ _ e₂.0;
      tail-in = ltb-true _ _ e₃.0;
      room = leb-true _ _ e₄.0;
      line = eqb-true _ _ e₄.1;
    }

pub placed-true : (t : Track) → Placed t → true ≡ placed_of t
unfolding placed_of
placed-true t p = simp (mode-true t.descriptors p.mode, lt-ltb _ _ p.head_in, lt-ltb _ _ p.tail-in, le-leb _ _ p.room, eq-eqb _ _ p.line)

pub paced-facts : (t : Track) → paced_of t ≡ true → Paced t
unfolding paced_of
paced-facts t e =
    let e₁ = both _ _ e in
    record {
      within = leb-true _ _ e₁.0;
      some = λ h. ltb-true _ _ (either t.running (ltb 0 t.period) (ltb t.turns t.budget) e₁.1 h).0;
      left = λ h. ltb-true _ _ (either t.running (ltb 0 t.period) (ltb t.turns t.budget) e₁.1 h).1;
    }

paced-by : (run p t : Bool) → (run ≡ true → p ≡ true) → (run ≡ true → t ≡ true) → true ≡ (not run || (p && t))
paced-by true p t a b = rw (a refl, b refl)
paced-by false p t a b = refl

pub paced-true : (t : Track) → Paced t → true ≡ paced_of t
unfolding paced_of
paced-true t p = rw (le-leb _ _ p.within) (paced-by t.running _ _ (λ h. lt-ltb _ _ (p.some h)) (λ h. lt-ltb _ _ (p.left h)))

-- no more are in flight than descriptors are for
pub few : (t : Track) → Placed t → t.inflight ≤ most_of t.descriptors
few t p = (le-div_iff_mul-le (mode_small t.descriptors p.mode).0).1 p.room

pub few-slots : (t : Track) → Placed t → t.inflight ≤ 32
few-slots t p = by t.descriptors p.mode p.room
  where
    by : (d : ℕ) → Mode d → t.inflight * d ≤ 32 → t.inflight ≤ 32
    by d (inl e) h = let room : t.inflight * direct ≤ 32 = rw (← e) h in omega arith
    by d (inr e) h = let room : t.inflight * indirect ≤ 32 = rw (← e) h in omega arith

-- the last test of each is what the whole comes to once the others passed; that head is a slot follows from it
placed_by : (t : Track) (b small : Bool) → ltb t.head 32 ≡ small → Mode t.descriptors → t.tail < 32 → t.inflight ≤ most_of t.descriptors → b ≡ eqb ((t.tail + t.inflight) % 32) t.head → b ≡ placed_of t
unfolding placed_of
placed_by t b true s p l m e =
    let room : t.inflight * t.descriptors ≤ 32 = (le-div_iff_mul-le (mode_small t.descriptors p).0).0 m in
    simp (mode-true t.descriptors p, s, lt-ltb _ _ l, le-leb _ _ room) e
placed_by t b false s p l m e =
    let h : 32 ≤ t.head = ltb-false t.head 32 s in
    simp (mode-true t.descriptors p, s) (e ∙ ne_eqb ((t.tail + t.inflight) % 32) t.head (λ z. omega arith))

pub placed-last : (t : Track) (b : Bool) → Mode t.descriptors → t.tail < 32 → t.inflight ≤ most_of t.descriptors → b ≡ eqb ((t.tail + t.inflight) % 32) t.head → b ≡ placed_of t
placed-last t b p l m e = placed_by t b (ltb t.head 32) refl p l m e

pub paced-idle : (t : Track) → t.next ≤ t.total → t.running ≡ false → true ≡ paced_of t
unfolding paced_of
paced-idle t h e = rw (le-leb _ _ h, e)

pub paced-last : (t : Track) (b : Bool) → t.next ≤ t.total → t.running ≡ true → 0 < t.period → b ≡ ltb t.turns t.budget → b ≡ paced_of t
unfolding paced_of
paced-last t b h r p e = rw (le-leb _ _ h, r, lt-ltb _ _ p) e

-- the invariant behind the test
pub record Consistent (t : Track) : Type 0 where
  pub placed : Placed t
  pub paced : Paced t
  pub kept : t.kept ≤ t.lent
  pub good : t.good ≤ t.turns

pub consistent-facts : (t : Track) → consistent_of t ≡ true → Consistent t
consistent-facts t e =
    let b = both (placed_of t) (paced_of t && (kept_of t && good_of t)) e in
    let p = both (paced_of t) (kept_of t && good_of t) b.1 in
    let k = both (kept_of t) (good_of t) p.1 in
    record { placed = placed-facts t b.0; paced = paced-facts t p.0; kept = leb-true _ _ k.0; good = leb-true _ _ k.1 }

pub consistent-true : (t : Track) → Consistent t → consistent_of t ≡ true
consistent-true t c =
    let p : placed_of t ≡ true = sym (placed-true t c.placed) in
    let q : paced_of t ≡ true = sym (paced-true t c.paced) in
    rw (p, q, le-leb _ _ c.kept) (le-leb _ _ c.good)
