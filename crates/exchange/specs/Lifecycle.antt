-- Theorems of the guard. "For any sequence of calls the state is the one the table gives for the ok commands." A command that was sent was permitted; the guard never
-- changes; and without it no state moves.
-- Assumes nothing.
use Rattle.std.specs.Prelude.{◌≡◌, ℕ, ◌-◌, ◌<◌, ◌≤◌, Bool, true, false, ◌&&◌, List, [], ◌∷◌, ◌++◌, length, replicate, ◌==◌, nat_le, slice_index, slice_index_or, slice_set, refl, None, Result, Ok, Err}
use Rattle.std.proofs.Common.{sym, ap, ap₂, ◌∙◌, subst, append-nil, inl, arith, get_or-set_other, get_or-set_same, eqb-true, leb-true, ltb-true}
use Rattle.std.proofs.lemmas.Bool.{false≢true, eqb-false}
use Rattle.layout.specs.Bytes.{un, bytes_at, num_at}
use Rattle.codes.specs.Says.{pick, guard}
use Rattle.codes.specs.Life.{permits_of}
use Rattle.tables.specs.Tables.{judged, is_good}
use Rattle.sound_core.specs.Consistent.{held_to, exactly, none_or_all, consistent_of}
use Rattle.sound_core.specs.Plan.{kind_code, kind_life, life_in, effect_of, own_set, own_command, begin_of, after_jacks, after_streams, after_maps, after_sent, answer_of}
use Rattle.sound_core.specs.declared.plan.Request.TheVariants as request
use Rattle.sound_core.specs.declared.state.Kind.TheVariants.{Prepare, Release, Start, Stop}
use Rattle.sound_core.specs.State.{with_stage}
use Rattle.exchange.specs.State.{new_sound, params_of, life_of, with_core}
use Rattle.exchange.specs.Tables.{look_of, pending_look, moved, sound_after}
use Rattle.exchange.specs.Exchange.{step_of, call_of, feed_of, fail_of}
use Rattle.exchange.specs.Feed.{Feed, paged, failed, page_of, plan_of, fed_of}
use Rattle.exchange.specs.Kept.{Playable}
use Rattle.exchange.specs.KeptLaws.{zero-life}
use Rattle.exchange.specs.ConsistentLaws.{facts_at, full, ready-tables}
use Rattle.exchange.specs.OwnLaws.{Own, sets, commands, remaps, lists, tells, refuses}
use Rattle.exchange.specs.PlanLaws.{Begun, bars, asks, goes as begins, begun, Answered, short, idle, asks-streams, asks-maps, cuts, finishes, ends, fails, fed as answers}
use Rattle.exchange.specs.StayLaws.{called-stays, called-quiet, fed-stays, after-core}
use Rattle.exchange.specs.XferLaws.{start-by, script-by, traced-by, capture-by}
use Rattle.exchange.specs.Submitted.{nb-sound, mark-sound, finish-sound}
use Rattle.exchange.specs.Reached.{Reached, fresh, called, fed, started, scripted, turned, traced, penned, captured, received, drained, submitted, marked, finished, begun as restarted, listened, logged, ran, renewed, reached-kept, reached-playable}
use Rattle.exchange.specs.Ends.{after}
use Rattle.turns.specs.Consistent.{placed_of, paced_of}
use Rattle.turns.specs.Ring.{direct, new_track, new_ring}
use Rattle.turns.specs.ConsistentLaws.{both}
use Rattle.exchange.specs.Types.{Verdict, Track, Ring, Kind, Counts, Call, SetParams, Command, Remap, Streams, Supported, Xfer, Capture, Stage, Idle, JacksAsked, StreamsAsked, MapsAsked, Sent, Core, Sound, Say, Send, Done, Effect, Nothing, FillJacks, FillStreams, FillMaps, Store, Move, Look, Plan, XferStep, Refusal}

-- ---- A WAY THROUGH THE TABLE: each command is permitted from the state before it, and is the state after it

pub data Walk : ℕ → List ℕ → ℕ → Type 0 where
  here : {l : ℕ} → Walk l [] l
  goes : {l k m : ℕ} {ks : List ℕ} → permits_of l k ≡ true → Walk k ks m → Walk l (k ∷ ks) m

walk-on : {l k m : ℕ} {ks : List ℕ} → Walk l ks m → permits_of m k ≡ true → Walk l (ks ++ (k ∷ [])) k
walk-on here p = goes p here
walk-on (goes q w) p = goes q (walk-on w p)

-- its end is its last command; with none it is where it began
abbrev pub last_or : ℕ → List ℕ → ℕ
last_or l [] = l
last_or l (k ∷ ks) = last_or k ks

pub walk_ends : {l m : ℕ} {ks : List ℕ} → Walk l ks m → m ≡ last_or l ks
walk_ends here = refl
walk_ends (goes p w) = walk_ends w

-- ---- "the ok commands": those to a stream that are out when an answer says Ok, in order

-- the command that a call is to a stream
abbrev pub command_to : ℕ → Call → List ℕ
command_to i (SetParams stream to) = pick (stream == i) (0 ∷ []) []
command_to i (Command kind stream) = pick (stream == i) (kind_life kind ∷ []) []
command_to i (Remap jack association sequence) = []
command_to i (Streams direction) = []
command_to i (Supported field stream) = []
command_to i (Xfer stream) = []
command_to i (Capture stream) = []

abbrev pub out_to : ℕ → Stage → List ℕ
out_to i Idle = []
out_to i (JacksAsked call) = []
out_to i (StreamsAsked call) = []
out_to i (MapsAsked call) = []
out_to i (Sent call) = command_to i call

abbrev pub ok_in : Result Say Refusal → List ℕ → List ℕ
ok_in (Ok (Send q)) ks = []
ok_in (Ok (Done v)) ks = ks
ok_in (Err r) ks = []

abbrev pub ok_of : Sound → Feed → ℕ → List ℕ
ok_of s f i = ok_in (plan_of s f).say (out_to i s.core.stage)

unfoldable pub oks_of : {s : Sound} {r : Ring} → Reached s r → ℕ → List ℕ
oks_of (fresh descriptors mode guard jacks streams maps) i = []
oks_of (called call n h) i = oks_of h i
oks_of (fed {s} f h) i = oks_of h i ++ ok_of s f i
oks_of (started stream len budget n h) i = oks_of h i
oks_of (scripted stream frames budget script n h) i = oks_of h i
oks_of (turned len room reading h) i = oks_of h i
oks_of (traced stream len budget room n h) i = oks_of h i
oks_of (penned written h) i = oks_of h i
oks_of (captured stream periods lent budget n h) i = oks_of h i
oks_of (received len c h) i = oks_of h i
oks_of (drained reading h) i = oks_of h i
oks_of (submitted stream n len m h) i = oks_of h i
oks_of (marked reading h) i = oks_of h i
oks_of (finished token h) i = oks_of h i
oks_of (restarted stream len period budget h) i = oks_of h i
oks_of (listened stream periods period lent budget h) i = oks_of h i
oks_of (logged stream len period budget room h) i = oks_of h i
oks_of (ran stream period budget frames script h) i = oks_of h i
oks_of (renewed descriptors mode h) i = oks_of h i

-- ---- a test that was made under the guard

made : (g t : Bool) → g ≡ true → held_to g t ≡ true → t ≡ true
made true t e h = h
made false t e h = absurd (false≢true e)

-- ---- "A command that the table does not permit from the present state is not sent."

abbrev pub Permitted : Sound → Result Say Refusal → Type 0
Permitted s (Ok (Send (request.Query q))) = Unit {0}
Permitted s (Ok (Send (request.Remap q))) = Unit {0}
Permitted s (Ok (Send (request.Command q))) = (q.stream < s.core.counts.streams) × (permits_of (life_of s q.stream) (q.code - 0x0101) ≡ true)
Permitted s (Ok (Send (request.Set q))) = (q.stream < s.core.counts.streams) × (permits_of (life_of s q.stream) (q.code - 0x0101) ≡ true)
Permitted s (Ok (Done v)) = Unit {0}
Permitted s (Err r) = Unit {0}

kind-number : (kind : Kind) → kind_code kind - 0x0101 ≡ kind_life kind
kind-number Prepare = refl
kind-number Release = refl
kind-number Start = refl
kind-number Stop = refl

-- what is out to a stream was permitted from where that stream is
abbrev Waits : List ℕ → Stage → Type 0
Waits lives g = (i k : ℕ) → out_to i g ≡ k ∷ [] → (permits_of (slice_index lives i) k ≡ true) × (i < 127)

empty : {A : Type 0} {k : ℕ} → ◌≡◌ {A = List ℕ} [] (k ∷ []) → A
empty e = let z : ◌≡◌ {A = ℕ} 0 1 = ap length e in absurd (omega arith)

one_out : (stream i x k : ℕ) → pick (stream == i) (x ∷ []) [] ≡ k ∷ [] → (stream ≡ i) × (x ≡ k)
one_out stream i x k = by (stream == i) refl
  where
    by : (t : Bool) → (stream == i) ≡ t → pick t (x ∷ []) [] ≡ k ∷ [] → (stream ≡ i) × (x ≡ k)
    by true e h = (eqb-true stream i e, ap (λ (l : List ℕ). slice_index l 0) h)
    by false e h = empty h

-- of a call's own part, with what it looked up
module _ (s : Sound) where
  own-waits : {c : Core} {look : Look} {call : Call} {p : Plan} → look ≡ look_of s call → c.guard ≡ true → c.counts.streams ≤ 127 → Own c look call p → Waits s.lives p.core.stage
  own-waits {c} l on few (sets {stream} {to} _ h m) i k e =
      let q = one_out stream i 0 k e in
      let t : permits_of (life_of s stream) 0 ≡ true = ap (λ (z : Look). permits_of (life_in z) 0) (sym l) ∙ made c.guard _ on m in
      (ap₂ (λ (a b : ℕ). permits_of (slice_index s.lives a) b) (sym q.0) (sym q.1) ∙ t, omega (arith, q.0, h, few))
  own-waits {c} l on few (commands {kind} {stream} h m) i k e =
      let q = one_out stream i (kind_life kind) k e in
      let t : permits_of (life_of s stream) (kind_life kind) ≡ true = ap (λ (z : Look). permits_of (life_in z) (kind_life kind)) (sym l) ∙ made c.guard _ on m in
      let d = ltb-true stream c.counts.streams (made c.guard _ on h) in
      (ap₂ (λ (a b : ℕ). permits_of (slice_index s.lives a) b) (sym q.0) (sym q.1) ∙ t, omega (arith, q.0, d, few))
  own-waits l on few (remaps _ _ _) i k e = empty e
  own-waits l on few lists i k e = empty e
  own-waits l on few (tells _) i k e = empty e
  own-waits l on few (refuses _ _) i k e = empty e

  own-permitted : {c : Core} {look : Look} {call : Call} {p : Plan} → look ≡ look_of s call → c.guard ≡ true → c.counts ≡ s.core.counts → Own c look call p → Permitted s p.say
  own-permitted {c} l on n (sets {stream} _ h m) =
      (subst (λ (z : Counts). stream < z.streams) n h, ap (λ (z : Look). permits_of (life_in z) 0) (sym l) ∙ made c.guard _ on m)
  own-permitted {c} l on n (commands {kind} {stream} h m) = (
    subst (λ (z : Counts). stream < z.streams) n (ltb-true stream c.counts.streams (made c.guard _ on h)),
    ap₂ (λ (z : Look) (k : ℕ). permits_of (life_in z) k) (sym l) (kind-number kind) ∙ made c.guard _ on m,
  )
  own-permitted l on n (remaps _ _ _) = tt
  own-permitted l on n lists = tt
  own-permitted l on n (tells _) = tt
  own-permitted l on n (refuses _ _) = tt

-- ---- one call, one feed

few-streams : (c : Core) → consistent_of c ≡ true → c.ready ≡ true → c.counts.streams ≤ 127
few-streams c e r = let f = full c.read c.counts (ready-tables c e r) in omega (arith, f.streams, f.most)

few-asked : (c : Core) (call : Call) → consistent_of c ≡ true → c.stage ≡ MapsAsked call → c.counts.streams ≤ 127
few-asked c call e g =
    let a = facts_at c (MapsAsked call) e g in
    let x = exactly c.read.streams c.counts.streams 127 in
    let b = (both (none_or_all c.read.jacks c.counts.jacks 170) (x && c.read.maps == 0) a.tables).1 in
    let d = both (c.read.streams == c.counts.streams) (nat_le c.read.streams 127) (both x (c.read.maps == 0) b).0 in
    omega (arith, eqb-true c.read.streams c.counts.streams d.0, leb-true c.read.streams 127 d.1)

-- a table that is filled, or not, moves no stream
unmoved : (s : Sound) (good : Bool) (x : Effect) (d : Core) (page : List ℕ) → (sound_after x d s page).lives ≡ s.lives → (sound_after (pick good x Nothing) d s page).lives ≡ s.lives
unmoved s true x d page e = e
unmoved s false x d page e = refl

module _ (s : Sound) (on : s.core.guard ≡ true) where
  begun-waits : {call : Call} {look : Look} {p : Plan} → look ≡ look_of s call → Waits s.lives s.core.stage → Begun s.core call look p → Waits s.lives p.core.stage
  begun-waits l w (bars r) = w
  begun-waits l w (asks _ _ _ _) = λ i k e. empty e
  begun-waits l w (begins e g r _ o) = own-waits s l on (few-streams s.core e r) o

  begun-permitted : {call : Call} {look : Look} {p : Plan} → look ≡ look_of s call → Begun s.core call look p → Permitted s p.say
  begun-permitted l (bars r) = tt
  begun-permitted l (asks _ _ _ _) = tt
  begun-permitted l (begins _ _ _ _ o) = own-permitted s l on refl o

  looked : {look : Look} {call : Call} → look ≡ pending_look s.core.stage s → s.core.stage ≡ MapsAsked call → look ≡ look_of s call
  looked l g = l ∙ ap (λ (z : Stage). pending_look z s) g

  module _ {v : Verdict} {look : Look} {long : Bool} (l : look ≡ pending_look s.core.stage s) where
    answered-permitted : {p : Plan} → Answered s.core v look long p → Permitted s p.say
    answered-permitted (short _) = tt
    answered-permitted (idle _) = tt
    answered-permitted (asks-streams _ _) = tt
    answered-permitted (asks-maps _ _ _) = tt
    answered-permitted (cuts _ _ _ _ _) = tt
    answered-permitted (finishes _ g o) = own-permitted s (looked l g) on refl o
    answered-permitted (ends _ _ _) = tt
    answered-permitted (fails _ _ _) = tt

    answered-waits : (page : List ℕ) → Waits s.lives s.core.stage → {p : Plan} → Answered s.core v look long p → Waits (sound_after p.effect p.core s page).lives p.core.stage
    answered-waits page w (short _) = w
    answered-waits page w (idle _) = w
    answered-waits page w (asks-streams _ _) = λ i k e. empty e
    answered-waits page w (asks-maps _ _ _) = λ i k e. empty e
    answered-waits page w (cuts _ _ _ _ _) = λ i k e. empty e
    answered-waits page w (finishes {call} {p} e g o) =
        subst (λ (z : List ℕ). Waits z p.core.stage) (sym (unmoved s (is_good v) (FillMaps s.core.counts.maps) p.core page refl)) (own-waits s (looked l g) on (few-asked s.core call e g) o)
    answered-waits page w (ends _ _ _) = λ i k e. empty e
    answered-waits page w (fails _ _ _) = λ i k e. empty e

-- ---- the walk goes on by an ok command, and else stays

walk-moved : (lives : List ℕ) (stream x i l : ℕ) {ks : List ℕ} → length lives ≡ 127 → ((k : ℕ) → pick (stream == i) (x ∷ []) [] ≡ k ∷ [] → (permits_of (slice_index lives i) k ≡ true) × (i < 127))
    → Walk l ks (slice_index lives i) → Walk l (ks ++ pick (stream == i) (x ∷ []) []) (slice_index (slice_set lives stream x) i)
walk-moved lives stream x i l {ks} n w h = by (stream == i) refl w
  where
    by : (t : Bool) → (stream == i) ≡ t → ((k : ℕ) → pick t (x ∷ []) [] ≡ k ∷ [] → (permits_of (slice_index lives i) k ≡ true) × (i < 127)) → Walk l (ks ++ pick t (x ∷ []) []) (slice_index (slice_set lives stream x) i)
    by true e f =
        let a = f x refl in
        let q : slice_index_or (slice_set lives stream x) i 0 ≡ x = ap (λ (z : ℕ). slice_index (slice_set lives z x) i) (eqb-true stream i e) ∙ get_or-set_same lives i x 0 (omega (arith, n, a.1)) in
        subst (λ (m : ℕ). Walk l (ks ++ (x ∷ [])) m) (sym q) (walk-on h a.0)
    by false e f =
        subst (λ (m : ℕ). Walk l (ks ++ []) m) (sym (get_or-set_other lives stream i x 0 (λ z. eqb-false stream i e (sym z))))
        (subst (λ (k : List ℕ). Walk l k (slice_index lives i)) (sym (append-nil ks)) h)

ok-none : (a : Result Say Refusal) → ok_in a [] ≡ []
ok-none (Ok (Send q)) = refl
ok-none (Ok (Done v)) = refl
ok-none (Err r) = refl

module _ (s : Sound) (page : List ℕ) (i l : ℕ) {ks : List ℕ} (h : Walk l ks (life_of s i)) where
  stay : {js : List ℕ} {m : ℕ} → js ≡ [] → m ≡ life_of s i → Walk l (ks ++ js) m
  stay {m} e q =
      subst (λ (j : List ℕ). Walk l (ks ++ j) m) (sym e)
      (subst (λ (z : ℕ). Walk l (ks ++ []) z) (sym q) (subst (λ (k : List ℕ). Walk l k (life_of s i)) (sym (append-nil ks)) h))

  ended-walk : (c : Core) → c.guard ≡ true → length s.lives ≡ 127 → (call : Call) → Waits s.lives (Sent call) → Walk l (ks ++ command_to i call) (slice_index (sound_after (effect_of call) c s page).lives i)
  ended-walk c on n (SetParams stream to) w =
      subst (λ (m : ℕ). Walk l (ks ++ command_to i (SetParams stream to)) m) (sym (ap (λ (b : Bool). slice_index (moved b s.lives stream 0) i) on)) (walk-moved s.lives stream 0 i l n (w i) h)
  ended-walk c on n (Command kind stream) w =
      subst (λ (m : ℕ). Walk l (ks ++ command_to i (Command kind stream)) m) (sym (ap (λ (b : Bool). slice_index (moved b s.lives stream (kind_life kind)) i) on)) (walk-moved s.lives stream (kind_life kind) i l n (w i) h)
  ended-walk c on n (Remap jack association sequence) w = stay refl refl
  ended-walk c on n (Streams direction) w = stay refl refl
  ended-walk c on n (Supported field stream) w = stay refl refl
  ended-walk c on n (Xfer stream) w = stay refl refl
  ended-walk c on n (Capture stream) w = stay refl refl

  answered-walk : s.core.guard ≡ true → length s.lives ≡ 127 → Waits s.lives s.core.stage → {v : Verdict} {look : Look} {long : Bool} {p : Plan} → Answered s.core v look long p
      → Walk l (ks ++ ok_in p.say (out_to i s.core.stage)) (slice_index (sound_after p.effect p.core s page).lives i)
  answered-walk on n w (short _) = stay refl refl
  answered-walk on n w (idle _) = stay refl refl
  answered-walk on n w {v} (asks-streams _ _) = stay refl (ap (λ (z : List ℕ). slice_index z i) (unmoved s (is_good v) (FillJacks s.core.counts.jacks) _ page refl))
  answered-walk on n w (asks-maps _ _ _) = stay refl refl
  answered-walk on n w (cuts _ _ _ _ _) = stay refl refl
  answered-walk on n w {v} (finishes {call} {p} _ g o) =
      stay (ap (λ (z : Stage). ok_in p.say (out_to i z)) g ∙ ok-none p.say) (ap (λ (z : List ℕ). slice_index z i) (unmoved s (is_good v) (FillMaps s.core.counts.maps) p.core page refl))
  answered-walk on n w (ends {call} _ g _) =
      subst (λ (z : Stage). Walk l (ks ++ out_to i z) (slice_index (sound_after (effect_of call) (with_stage s.core Idle) s page).lives i)) (sym g)
      (ended-walk (with_stage s.core Idle) on n call (subst (Waits s.lives) g w))
  answered-walk on n w (fails _ _ _) = stay refl refl

-- ---- THE GUARD NEVER CHANGES: it is the one that the state was made with

unfoldable pub guard_of : {s : Sound} {r : Ring} → Reached s r → Bool
guard_of (fresh descriptors mode guard jacks streams maps) = guard
guard_of (called call n h) = guard_of h
guard_of (fed f h) = guard_of h
guard_of (started stream len budget n h) = guard_of h
guard_of (scripted stream frames budget script n h) = guard_of h
guard_of (turned len room reading h) = guard_of h
guard_of (traced stream len budget room n h) = guard_of h
guard_of (penned written h) = guard_of h
guard_of (captured stream periods lent budget n h) = guard_of h
guard_of (received len c h) = guard_of h
guard_of (drained reading h) = guard_of h
guard_of (submitted stream n len m h) = guard_of h
guard_of (marked reading h) = guard_of h
guard_of (finished token h) = guard_of h
guard_of (restarted stream len period budget h) = guard_of h
guard_of (listened stream periods period lent budget h) = guard_of h
guard_of (logged stream len period budget room h) = guard_of h
guard_of (ran stream period budget frames script h) = guard_of h
guard_of (renewed descriptors mode h) = guard_of h

called-guard : (s : Sound) (t : Track) (call : Call) (n : ℕ) → (step_of (call_of s t call n) s []).sound.core.guard ≡ s.core.guard
called-guard s t call n = let p = call_of s t call n in ap (λ (c : Core). c.guard) (after-core p.effect p.core s []) ∙ (called-stays s t call n).guard

fed-guard : (s : Sound) (f : Feed) → (fed_of s f).sound.core.guard ≡ s.core.guard
fed-guard s f = let p = plan_of s f in ap (λ (c : Core). c.guard) (after-core p.effect p.core s (page_of f)) ∙ (fed-stays s f).guard

pub guard-stays : {s : Sound} {r : Ring} (h : Reached s r) → s.core.guard ≡ guard_of h
unfolding guard_of
guard-stays (fresh descriptors mode guard jacks streams maps) = refl
guard-stays (called {s} {r} call n h) = called-guard s r.track call n ∙ guard-stays h
guard-stays (fed {s} f h) = fed-guard s f ∙ guard-stays h
guard-stays (started {s} {r} stream len budget n h) =
    start-by (λ (x : XferStep). x.sound.core.guard ≡ guard_of h) s r stream len budget n (λ _. guard-stays h) (λ _ _ _. guard-stays h) (guard-stays h)
guard-stays (scripted {s} {r} stream frames budget script n h) =
    script-by (λ (x : XferStep). x.sound.core.guard ≡ guard_of h) s r stream (length frames) budget n (λ _. guard-stays h) (λ _ _ _. guard-stays h) script (guard-stays h)
guard-stays (turned len room reading h) = guard-stays h
guard-stays (traced {s} {r} stream len budget room n h) =
    traced-by (λ (x : XferStep). x.sound.core.guard ≡ guard_of h) s r stream len budget room n (λ _. guard-stays h) (λ _ _ _. guard-stays h) (λ _. guard-stays h)
guard-stays (penned written h) = guard-stays h
guard-stays (captured {s} {r} stream periods lent budget n h) =
    capture-by (λ (x : XferStep). x.sound.core.guard ≡ guard_of h) s r stream periods lent budget n (λ _. guard-stays h) (λ _ _ _. guard-stays h) (λ _. guard-stays h)
guard-stays (received len c h) = guard-stays h
guard-stays (drained reading h) = guard-stays h
guard-stays (submitted {s} {r} stream n len m h) = nb-sound (λ (x : Sound). x.core.guard ≡ guard_of h) s r stream n len m (guard-stays h) (λ _ _ _. guard-stays h) (λ _. guard-stays h)
guard-stays (marked {s} reading h) = mark-sound (λ (x : Sound). x.core.guard ≡ guard_of h) s (guard-stays h) (λ _. guard-stays h) reading
guard-stays (finished {s} token h) = finish-sound (λ (x : Sound). x.core.guard ≡ guard_of h) s (guard-stays h) (λ _. guard-stays h) token
guard-stays (restarted stream len period budget h) = guard-stays h
guard-stays (listened stream periods period lent budget h) = guard-stays h
guard-stays (logged stream len period budget room h) = guard-stays h
guard-stays (ran stream period budget frames script h) = guard-stays h
guard-stays (renewed descriptors mode h) = guard-stays h

-- ---- A COMMAND THAT WAS SENT WAS PERMITTED, to a stream that there is; at a call and at a feed, in any state

pub sent-permitted : (s : Sound) (t : Track) (call : Call) (n : ℕ) → s.core.guard ≡ true → Permitted s (call_of s t call n).say
sent-permitted s t call n on = begun-permitted s on refl (begun s t call n)

pub sent-permitted-feed : (s : Sound) (f : Feed) → s.core.guard ≡ true → Permitted s (plan_of s f).say
sent-permitted-feed s f on = answered-permitted s on refl (answers s f)

-- ---- THE LIFECYCLE

-- the state after a call has its tables, parameters and lifecycles as they were
called-as : (s : Sound) (t : Track) (call : Call) (n : ℕ) → (step_of (call_of s t call n) s []).sound ≡ with_core (call_of s t call n).core s
called-as s t call n = ap (λ (x : Effect). sound_after x (call_of s t call n).core s []) (called-quiet s t call n)

abbrev Waiting : Sound → Type 0
Waiting x = x.core.guard ≡ true → Waits x.lives x.core.stage

reached-waits : {s : Sound} {r : Ring} → Reached s r → Waiting s
reached-waits (fresh descriptors mode guard jacks streams maps) on = λ i k e. empty e
reached-waits (called {s} {r} call n h) on =
    let c = (call_of s r.track call n).core in
    let was : s.core.guard ≡ true = sym (called-guard s r.track call n) ∙ on in
    subst (λ (x : Sound). Waits x.lives x.core.stage) (sym (called-as s r.track call n)) (begun-waits s was refl (reached-waits h was) (begun s r.track call n))
reached-waits (fed {s} f h) on =
    let p = plan_of s f in
    let was : s.core.guard ≡ true = sym (fed-guard s f) ∙ on in
    subst (λ (c : Core). Waits (fed_of s f).sound.lives c.stage) (sym (after-core p.effect p.core s (page_of f))) (answered-waits s was refl (page_of f) (reached-waits h was) (answers s f))
reached-waits (started {s} {r} stream len budget n h) on =
    start-by (λ (x : XferStep). Waiting x.sound) s r stream len budget n (λ _ o. reached-waits h o) (λ _ _ _ _ i k e. empty e) (λ o. reached-waits h o) on
reached-waits (scripted {s} {r} stream frames budget script n h) on =
    script-by (λ (x : XferStep). Waiting x.sound) s r stream (length frames) budget n (λ _ o. reached-waits h o) (λ _ _ _ _ i k e. empty e) script (λ o. reached-waits h o) on
reached-waits (turned len room reading h) on = reached-waits h on
reached-waits (traced {s} {r} stream len budget room n h) on =
    traced-by (λ (x : XferStep). Waiting x.sound) s r stream len budget room n (λ _ o. reached-waits h o) (λ _ _ _ _ i k e. empty e) (λ _ o. reached-waits h o) on
reached-waits (penned written h) on = reached-waits h on
reached-waits (captured {s} {r} stream periods lent budget n h) on =
    capture-by (λ (x : XferStep). Waiting x.sound) s r stream periods lent budget n (λ _ o. reached-waits h o) (λ _ _ _ _ i k e. empty e) (λ _ o. reached-waits h o) on
reached-waits (received len c h) on = reached-waits h on
reached-waits (drained reading h) on = reached-waits h on
reached-waits (submitted {s} {r} stream n len m h) on = nb-sound Waiting s r stream n len m (λ o. reached-waits h o) (λ _ _ _ _ i k e. empty e) (λ _ o. reached-waits h o) on
reached-waits (marked {s} reading h) on = mark-sound Waiting s (λ o. reached-waits h o) (λ _ o. reached-waits h o) reading on
reached-waits (finished {s} token h) on = finish-sound Waiting s (λ o. reached-waits h o) (λ _ o. reached-waits h o) token on
reached-waits (restarted stream len period budget h) on = reached-waits h on
reached-waits (listened stream periods period lent budget h) on = reached-waits h on
reached-waits (logged stream len period budget room h) on = reached-waits h on
reached-waits (ran stream period budget frames script h) on = reached-waits h on
reached-waits (renewed descriptors mode h) on = reached-waits h on

-- from "set parameters" each ok command to a stream was permitted where the stream was, and the last of them is where it is
pub lifecycle : {s : Sound} {r : Ring} (h : Reached s r) (i : ℕ) → s.core.guard ≡ true → Walk 0 (oks_of h i) (life_of s i)
unfolding oks_of
lifecycle (fresh descriptors mode guard jacks streams maps) i on = subst (λ (m : ℕ). Walk 0 [] m) (sym (zero-life 127 i)) here
lifecycle (called {s} {r} call n h) i on =
    subst (λ (x : Sound). Walk 0 (oks_of h i) (life_of x i)) (sym (called-as s r.track call n)) (lifecycle h i (sym (called-guard s r.track call n) ∙ on))
lifecycle (fed {s} f h) i on =
    let was : s.core.guard ≡ true = sym (fed-guard s f) ∙ on in
    answered-walk s (page_of f) i 0 (lifecycle h i was) was (reached-kept h).0.lives (reached-waits h was) (answers s f)
lifecycle (started {s} {r} stream len budget n h) i on =
    start-by (λ (x : XferStep). x.sound.core.guard ≡ true → Walk 0 (oks_of h i) (life_of x.sound i)) s r stream len budget n (λ _ o. lifecycle h i o) (λ _ _ _ o. lifecycle h i o) (λ o. lifecycle h i o) on
lifecycle (scripted {s} {r} stream frames budget script n h) i on =
    script-by (λ (x : XferStep). x.sound.core.guard ≡ true → Walk 0 (oks_of h i) (life_of x.sound i)) s r stream (length frames) budget n (λ _ o. lifecycle h i o) (λ _ _ _ o. lifecycle h i o) script (λ o. lifecycle h i o) on
lifecycle (turned len room reading h) i on = lifecycle h i on
lifecycle (traced {s} {r} stream len budget room n h) i on =
    traced-by (λ (x : XferStep). x.sound.core.guard ≡ true → Walk 0 (oks_of h i) (life_of x.sound i)) s r stream len budget room n (λ _ o. lifecycle h i o) (λ _ _ _ o. lifecycle h i o) (λ _ o. lifecycle h i o) on
lifecycle (penned written h) i on = lifecycle h i on
lifecycle (captured {s} {r} stream periods lent budget n h) i on =
    capture-by (λ (x : XferStep). x.sound.core.guard ≡ true → Walk 0 (oks_of h i) (life_of x.sound i)) s r stream periods lent budget n (λ _ o. lifecycle h i o) (λ _ _ _ o. lifecycle h i o) (λ _ o. lifecycle h i o) on
lifecycle (received len c h) i on = lifecycle h i on
lifecycle (drained reading h) i on = lifecycle h i on
lifecycle (submitted {s} {r} stream n len m h) i on =
    nb-sound (λ (x : Sound). x.core.guard ≡ true → Walk 0 (oks_of h i) (life_of x i)) s r stream n len m (λ o. lifecycle h i o) (λ _ _ _ o. lifecycle h i o) (λ _ o. lifecycle h i o) on
lifecycle (marked {s} reading h) i on = mark-sound (λ (x : Sound). x.core.guard ≡ true → Walk 0 (oks_of h i) (life_of x i)) s (λ o. lifecycle h i o) (λ _ o. lifecycle h i o) reading on
lifecycle (finished {s} token h) i on = finish-sound (λ (x : Sound). x.core.guard ≡ true → Walk 0 (oks_of h i) (life_of x i)) s (λ o. lifecycle h i o) (λ _ o. lifecycle h i o) token on
lifecycle (restarted stream len period budget h) i on = lifecycle h i on
lifecycle (listened stream periods period lent budget h) i on = lifecycle h i on
lifecycle (logged stream len period budget room h) i on = lifecycle h i on
lifecycle (ran stream period budget frames script h) i on = lifecycle h i on
lifecycle (renewed descriptors mode h) i on = lifecycle h i on

-- ---- WITHOUT THE GUARD no effect moves a stream: "Guard off, all reads as before"

pub off-still : (x : Effect) (c : Core) (s : Sound) (page : List ℕ) → c.guard ≡ false → (sound_after x c s page).lives ≡ s.lives
off-still Nothing c s page off = refl
off-still (FillJacks n) c s page off = refl
off-still (FillStreams n) c s page off = refl
off-still (FillMaps n) c s page off = refl
off-still (Store stream to) c s page off = ap (λ (g : Bool). moved g s.lives stream 0) off
off-still (Move stream life) c s page off = ap (λ (g : Bool). moved g s.lives stream life) off

-- ---- an instance: with the guard, 2 streams; set parameters of stream 1 and then prepare, both answered with ok. Demand 3's premises are met, and the walk is those two

abbrev ok : Feed
ok = paged None (0x00 ∷ 0x80 ∷ replicate 4094 0) 24

abbrev first : Call
first = SetParams 1 (record { known = 0; buffer = 8192; period = 2048; features = 0; channels = 2; format = 5; rate = 7 })

abbrev new : Sound
new = new_sound true 0 2 0

abbrev parameters_set : Sound
parameters_set = after (step_of (call_of new (new_track direct) first 24) new []).sound (failed 24 ∷ ok ∷ failed 24 ∷ ok ∷ [])

abbrev prepared : Sound
prepared = (fed_of (step_of (call_of parameters_set (new_track direct) (Command Prepare 1) 24) parameters_set []).sound ok).sound

pub reached-prepared : Reached prepared (new_ring direct)
unfolding after
reached-prepared = fed ok (called (Command Prepare 1) 24 (fed ok (fed (failed 24) (fed ok (fed (failed 24) (called first 24 (fresh direct (inl refl) true 0 2 0)))))))

pub prepared-walk : oks_of reached-prepared 1 ≡ 0 ∷ 1 ∷ []
unfolding reached-prepared oks_of after call_of feed_of fail_of begin_of answer_of after_jacks after_streams after_maps after_sent own_set own_command consistent_of placed_of paced_of guard judged num_at bytes_at un permits_of
prepared-walk = refl

pub prepared-playable : Playable prepared (new_ring direct) 1
unfolding after call_of feed_of fail_of begin_of answer_of after_jacks after_streams after_maps after_sent own_set own_command consistent_of placed_of paced_of guard judged num_at bytes_at un permits_of
prepared-playable =
    let k : ◌≡◌ {A = ℕ} (params_of prepared 1).known 1 = refl in
    reached-playable 1 reached-prepared (λ e. omega (arith, k, e)) (λ _. refl) refl refl refl refl
