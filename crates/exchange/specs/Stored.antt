-- Theorems: set-up stays done, and parameters change only by an ok answer.
-- Assumes nothing.
use Rattle.std.specs.Prelude.{◌≡◌, ℕ, zero, suc, Bool, true, false, ◌⊎◌, List, [], ◌∷◌, slice_index_or, slice_set, refl}
use Rattle.std.proofs.Common.{ap, ◌∙◌, subst, inl, inr}
use Rattle.std.proofs.lemmas.Bool.{false≢true}
use Rattle.layout.specs.Bytes.{num_at}
use Rattle.codes.specs.Says.{pick}
use Rattle.tables.specs.Tables.{is_good}
use Rattle.tables.specs.TablesLaws.{good-whole}
use Rattle.sound_core.specs.State.{unset}
use Rattle.exchange.specs.State.{params_of}
use Rattle.sound_core.specs.Plan.{stored_of, effect_of, verdict_by}
use Rattle.exchange.specs.Tables.{sound_after}
use Rattle.exchange.specs.PlanLaws.{Answered, short, idle, asks-streams, asks-maps, cuts, finishes, ends, fails, fed}
use Rattle.exchange.specs.Exchange.{step_of, call_of}
use Rattle.exchange.specs.Xfer.{start_of, start_traced_of, xfer_of, capture_of}
use Rattle.exchange.specs.XferLaws.{start-by, script-by, traced-by, capture-by}
use Rattle.exchange.specs.Feed.{Feed, paged, failed, page_of, plan_of, fed_of, verdict_of}
use Rattle.exchange.specs.StayLaws.{Stays, called-stays, called-quiet, fed-stays, after-core}
use Rattle.exchange.specs.Types.{Verdict, Track, Ring, Params, Call, SetParams, Command, Remap, Streams, Supported, Xfer, Capture, Stage, Sent, Core, Sound, Effect, Nothing, FillJacks, FillMaps, Look, Plan}

-- ---- "A set-up finished in a call stays done however that call ends."

done-after : (s : Sound) (p : Plan) (page : List ℕ) → Stays s.core p → s.core.ready ≡ true → (step_of p s page).sound.core.ready ≡ true
done-after s p page a r = ap (λ (c : Core). c.ready) (after-core p.effect p.core s page) ∙ a.ready r

pub setup-stays-done-call : (s : Sound) (t : Track) (call : Call) (n : ℕ) → s.core.ready ≡ true → (step_of (call_of s t call n) s []).sound.core.ready ≡ true
setup-stays-done-call s t call n = done-after s (call_of s t call n) [] (called-stays s t call n)

pub setup-stays-done-feed : (s : Sound) (f : Feed) → s.core.ready ≡ true → (fed_of s f).sound.core.ready ≡ true
setup-stays-done-feed s f = done-after s (plan_of s f) (page_of f) (fed-stays s f)

module _ (s : Sound) (r : Ring) (stream len budget n : ℕ) (done : s.core.ready ≡ true) where
  pub setup-stays-done-start : (start_of s r stream len budget n).sound.core.ready ≡ true
  setup-stays-done-start = start-by (λ x. x.sound.core.ready ≡ true) s r stream len budget n (λ _. done) (λ _ _ _. done) done

  pub setup-stays-done-capture : (periods : ℕ) → (capture_of s r stream periods len budget n).sound.core.ready ≡ true
  setup-stays-done-capture periods = capture-by (λ x. x.sound.core.ready ≡ true) s r stream periods len budget n (λ _. done) (λ _ _ _. done) (λ _. done)

  pub setup-stays-done-traced : (room : ℕ) → (start_traced_of s r stream len budget room n).sound.core.ready ≡ true
  setup-stays-done-traced room = traced-by (λ x. x.sound.core.ready ≡ true) s r stream len budget room n (λ _. done) (λ _ _ _. done) (λ _. done)

  pub setup-stays-done-script : (script : List ℕ) → (xfer_of s r stream len budget script n).sound.core.ready ≡ true
  setup-stays-done-script script = script-by (λ x. x.sound.core.ready ≡ true) s r stream len budget n (λ _. done) (λ _ _ _. done) script done

-- ---- "Status ok stores all seven values; else 2." Parameters change only by a page with an ok header, to those of the call that is out

pub record Stored (s : Sound) (page : List ℕ) (i : ℕ) (now : Params) : Type 0 where
  pub to : Params
  pub out : s.core.stage ≡ Sent (SetParams i to)
  pub ok : num_at 0 4 page ≡ 0x8000
  pub new : now ≡ stored_of to

set_cases : (l : List Params) (k i : ℕ) (to : Params) → (slice_index_or (slice_set l k to) i unset ≡ slice_index_or l i unset) ⊎ ((k ≡ i) × (slice_index_or (slice_set l k to) i unset ≡ to))
set_cases [] k i to = inl refl
set_cases (x ∷ l) zero zero to = inr (refl, refl)
set_cases (x ∷ l) zero (suc i) to = inl refl
set_cases (x ∷ l) (suc k) zero to = inl refl
set_cases (x ∷ l) (suc k) (suc i) to = elim (set_cases l k i to) [ inl e ↦ inl e | inr e ↦ inr (ap suc e.0, e.1) ]

abbrev Changed : Sound → List ℕ → ℕ → Effect → Core → Type 0
Changed s page i x c = (params_of (sound_after x c s page) i ≡ params_of s i) ⊎ Stored s page i (params_of (sound_after x c s page) i)

stored : (s : Sound) (page : List ℕ) (i : ℕ) (c : Core) (call : Call) → s.core.stage ≡ Sent call → num_at 0 4 page ≡ 0x8000 → Changed s page i (effect_of call) c
stored s page i c (SetParams stream to) g ok =
    elim (set_cases s.params stream i (stored_of to)) [ inl e ↦ inl e | inr e ↦ inr (record { to = to; out = g ∙ ap (λ (k : ℕ). Sent (SetParams k to)) e.0; ok = ok; new = e.1 }) ]
stored s page i c (Command kind stream) g ok = inl refl
stored s page i c (Remap jack association sequence) g ok = inl refl
stored s page i c (Streams direction) g ok = inl refl
stored s page i c (Supported field stream) g ok = inl refl
stored s page i c (Xfer stream) g ok = inl refl
stored s page i c (Capture stream) g ok = inl refl

filled : (s : Sound) (page : List ℕ) (i n : ℕ) (good : Bool) (c : Core) → Changed s page i (pick good (FillJacks n) Nothing) c × Changed s page i (pick good (FillMaps n) Nothing) c
filled s page i n true c = (inl refl, inl refl)
filled s page i n false c = (inl refl, inl refl)

changed : (s : Sound) (page : List ℕ) (i : ℕ) {v : Verdict} {look : Look} {long : Bool} {p : Plan}
    → ((call : Call) → s.core.stage ≡ Sent call → is_good v ≡ true → num_at 0 4 page ≡ 0x8000) → Answered s.core v look long p → Changed s page i p.effect p.core
changed s page i ok (short _) = inl refl
changed s page i ok (idle _) = inl refl
changed s page i {v} ok (asks-streams _ _) = (filled s page i _ (is_good v) _).0
changed s page i ok (asks-maps _ _ _) = inl refl
changed s page i ok (cuts _ _ _ _ _) = inl refl
changed s page i {v} ok (finishes _ _ _) = (filled s page i _ (is_good v) _).1
changed s page i ok (ends {call} _ g h) = stored s page i _ call g (ok call g h)
changed s page i ok (fails _ _ _) = inl refl

good-ok : (s : Sound) (f : Feed) (call : Call) → s.core.stage ≡ Sent call → is_good (verdict_of s f) ≡ true → num_at 0 4 (page_of f) ≡ 0x8000
good-ok s (paged w bytes n) call g h = (good-whole w bytes 0 0 (subst (λ (k : Stage). is_good (verdict_by w k s.core.counts bytes) ≡ true) g h)).ok
good-ok s (failed n) call g h = absurd (false≢true h)

-- of a feed; a failure has no page, and so no header
pub params-only-by-ok : (s : Sound) (f : Feed) (i : ℕ) → let now = params_of (fed_of s f).sound i in (now ≡ params_of s i) ⊎ Stored s (page_of f) i now
params-only-by-ok s f i = changed s (page_of f) i (good-ok s f) (fed s f)

-- no call changes them, and no start of a transfer

pub params-by-call : (s : Sound) (t : Track) (call : Call) (n i : ℕ) → params_of (step_of (call_of s t call n) s []).sound i ≡ params_of s i
params-by-call s t call n i = ap (λ (x : Effect). params_of (sound_after x (call_of s t call n).core s []) i) (called-quiet s t call n)

module _ (s : Sound) (r : Ring) (stream len budget n i : ℕ) where
  pub params-by-start : params_of (start_of s r stream len budget n).sound i ≡ params_of s i
  params-by-start = start-by (λ x. params_of x.sound i ≡ params_of s i) s r stream len budget n (λ _. refl) (λ _ _ _. refl) refl

  pub params-by-capture : (periods : ℕ) → params_of (capture_of s r stream periods len budget n).sound i ≡ params_of s i
  params-by-capture periods = capture-by (λ x. params_of x.sound i ≡ params_of s i) s r stream periods len budget n (λ _. refl) (λ _ _ _. refl) (λ _. refl)

  pub params-by-traced : (room : ℕ) → params_of (start_traced_of s r stream len budget room n).sound i ≡ params_of s i
  params-by-traced room = traced-by (λ x. params_of x.sound i ≡ params_of s i) s r stream len budget room n (λ _. refl) (λ _ _ _. refl) (λ _. refl)

  pub params-by-script : (script : List ℕ) → params_of (xfer_of s r stream len budget script n).sound i ≡ params_of s i
  params-by-script script = script-by (λ x. params_of x.sound i ≡ params_of s i) s r stream len budget n (λ _. refl) (λ _ _ _. refl) script refl
