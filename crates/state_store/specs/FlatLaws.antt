-- A stage and its fields: each is had back from the other, where the fields are whole.
-- Assumes nothing.
use Rattle.std.specs.Prelude.{◌≡◌, ℕ, zero, suc, ◌≤◌, Bool, true, false, not, ◌&&◌, List, [], ◌∷◌, drop, ◌==◌, nat_le, refl}
use Rattle.std.proofs.Common.{sym, ap, ap₂, ◌∙◌, arith, eq-eqb, eqb-true, leb-true}
use Rattle.std.proofs.lemmas.Bool.{false≢true}
use Rattle.codes.specs.Says.{pick}
use Rattle.codes.specs.SaysLaws.{picks}
use Rattle.turns.specs.ConsistentLaws.{both}
use Rattle.state_store.specs.Flat.{flat_values, kind_number, kind_of, field_number, flat_field, call_flat, staged, flat_of, flat_call, flat_stage, flat_ready, same_flat, whole_flat}
use Rattle.state_store.specs.Store.{whole_head, head_from, head_of, core_of, flag}
use Rattle.state_store.specs.Types.{Kind, Prepare, Release, Start, Stop, Field, Rates, Formats, Channels, Features, Call, SetParams, Command, Remap, Streams, Supported, Xfer, Capture, Stage, Idle, JacksAsked, StreamsAsked, MapsAsked, Sent, Core, Flat, Head}

-- ---- a stage is had back from its fields

kind-back : (k : Kind) → kind_of (kind_number k) ≡ k
kind-back Prepare = refl
kind-back Release = refl
kind-back Start = refl
kind-back Stop = refl

field_back : (f : Field) → flat_field (field_number f) ≡ f
field_back Rates = refl
field_back Formats = refl
field_back Channels = refl
field_back Features = refl

module _ (ready : Bool) (n : ℕ) where
  call_back : (call : Call) → flat_call (staged ready n (call_flat call)) ≡ call
  call_back (SetParams stream to) = refl
  call_back (Command kind stream) = ap (λ (k : Kind). Command k stream) (kind-back kind)
  call_back (Remap jack association sequence) = refl
  call_back (Streams direction) = refl
  call_back (Supported field stream) = ap (λ (f : Field). Supported f stream) (field_back field)
  call_back (Xfer stream) = refl
  call_back (Capture stream) = refl

module _ (ready : Bool) where
  pub flat-stage : (g : Stage) → flat_stage (flat_of ready g) ≡ g
  flat-stage Idle = refl
  flat-stage (JacksAsked call) = ap JacksAsked (call_back ready 1 call)
  flat-stage (StreamsAsked call) = ap StreamsAsked (call_back ready 2 call)
  flat-stage (MapsAsked call) = ap MapsAsked (call_back ready 3 call)
  flat-stage (Sent call) = ap Sent (call_back ready 4 call)

flag-back : (b : Bool) → not (pick b 1 0 == 0) ≡ b
flag-back true = refl
flag-back false = refl

pub flat-ready : (ready : Bool) (g : Stage) → flat_ready (flat_of ready g) ≡ ready
flat-ready ready Idle = flag-back ready
flat-ready ready (JacksAsked call) = flag-back ready
flat-ready ready (StreamsAsked call) = flag-back ready
flat-ready ready (MapsAsked call) = flag-back ready
flat-ready ready (Sent call) = flag-back ready

-- ---- the test of wholeness

eqb-self : (n : ℕ) → (n == n) ≡ true
eqb-self n = eq-eqb n n refl

same_self : (f : Flat) → same_flat f f ≡ true
unfolding same_flat
same_self f = simp eqb-self

-- two lists that are not empty, value by value
abbrev agree : ℕ → List ℕ → ℕ → List ℕ → Bool
agree x [] y [] = x == y
agree x [] y (v ∷ vs) = false
agree x (u ∷ us) y [] = false
agree x (u ∷ us) y (v ∷ vs) = x == y && agree u us v vs

agree-true : (x : ℕ) (us : List ℕ) (y : ℕ) (vs : List ℕ) → agree x us y vs ≡ true → x ∷ us ≡ y ∷ vs
agree-true x [] y [] e = ap (λ (n : ℕ). n ∷ []) (eqb-true x y e)
agree-true x [] y (v ∷ vs) e = absurd (false≢true e)
agree-true x (u ∷ us) y [] e = absurd (false≢true e)
agree-true x (u ∷ us) y (v ∷ vs) e =
    let h = both (x == y) (agree u us v vs) e in
    ap₂ (λ (n : ℕ) (l : List ℕ). n ∷ l) (eqb-true x y h.0) (agree-true u us v vs h.1)

same_true : (f g : Flat) → same_flat f g ≡ true → f ≡ g
unfolding same_flat
same_true f g e =
    ap (λ (vs : List ℕ). (head_from (0 ∷ 0 ∷ 0 ∷ 0 ∷ 0 ∷ 0 ∷ vs)).flat)
    (agree-true f.ready (drop 1 (flat_values f)) g.ready (drop 1 (flat_values g)) e)

-- the fields of a stage are whole
pub flat-whole : (ready : Bool) (g : Stage) → whole_flat (flat_of ready g) ≡ true
unfolding whole_flat
flat-whole ready g = (λ i. same_flat (flat_of ready g) (flat_of (flat-ready ready g i) (flat-stage ready g i))) ∙ same_self (flat_of ready g)

-- fields that are whole are those of their stage
pub flat-same : (f : Flat) → whole_flat f ≡ true → flat_of (flat_ready f) (flat_stage f) ≡ f
unfolding whole_flat
flat-same f e = sym (same_true f (flat_of (flat_ready f) (flat_stage f)) e)

-- ---- a core and its head

flag_small : (b : Bool) → nat_le (flag b) 1 ≡ true
flag_small true = refl
flag_small false = refl

flag_same : (n : ℕ) → n ≤ 1 → flag (not (n == 0)) ≡ n
flag_same zero h = refl
flag_same (suc zero) h = refl
flag_same (suc (suc n)) h = absurd (omega arith)

pub head-whole : (c : Core) → whole_head (head_of c) ≡ true
head-whole c = ap₂ (λ (t u : Bool). t && (u && true)) (flat-whole c.ready c.stage) (flag_small c.guard)

pub core-back : (c : Core) → core_of (head_of c) ≡ c
core-back c =
    picks _ _ _ (head-whole c)
    ∙ (λ i. record { counts = c.counts; guard = flag-back c.guard i; read = c.read; ready = flat-ready c.ready c.stage i; stage = flat-stage c.ready c.stage i })

pub core-same : (h : Head) → whole_head h ≡ true → head_of (core_of h) ≡ h
core-same h e =
    let a = both (whole_flat h.flat) (nat_le h.guard 1 && h.reserved == 0) e in
    let r = both (nat_le h.guard 1) (h.reserved == 0) a.1 in
    ap head_of (picks _ _ _ e)
    ∙ (λ i. record { counts = h.counts; read = h.read; flat = flat-same h.flat a.0 i; guard = flag_same h.guard (leb-true h.guard 1 r.0) i; reserved = sym (eqb-true h.reserved 0 r.1) i })
