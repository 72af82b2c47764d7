-- What a call leaves is whole: the numbers of a core that fit their widths still fit after any call or answer.
-- Assumes nothing.
use Rattle.std.specs.Prelude.{◌≡◌, ℕ, ◌+◌, ◌^◌, ◌<◌, ◌≤◌, Bool, true, false, List, [], ◌∷◌, ◌++◌, length, drop, nat_le, refl, Result, Ok, Err}
use Rattle.std.proofs.Common.{sym, ap, ◌∙◌, subst, zero-add, arith, lit<, leb-true}
use Rattle.std.proofs.lemmas.List.Edits.{sets, sets-eq}
use Rattle.layout.specs.Bytes.{Bytes}
use Rattle.layout.specs.Layout.{read_at, Fit}
use Rattle.layout.specs.Rows.{rows_bytes}
use Rattle.layout.specs.LayoutLaws.{read_fits, read-own}
use Rattle.layout.specs.StoreLaws.{sets_then, bytes_at-before}
use Rattle.codes.specs.Says.{pick}
use Rattle.codes.specs.SaysLaws.{picks, guarded-by}
use Rattle.tables.specs.Tables.{is_good}
use Rattle.turns.specs.ConsistentLaws.{both}
use Rattle.sound_core.specs.State.{new_core, with_stage}
use Rattle.exchange.specs.State.{new_sound}
use Rattle.exchange.specs.Tables.{sound_after}
use Rattle.exchange.specs.Feed.{Feed, paged, failed, plan_of, page_of}
use Rattle.exchange.specs.Exchange.{call_of}
use Rattle.exchange.specs.Xfer.{waiting_as, set_up_with}
use Rattle.exchange.specs.OwnLaws.{Own, sets as sends, commands, remaps, lists, tells, refuses, picked-by}
use Rattle.exchange.specs.PlanLaws.{Begun, bars, asks, goes, begun, counted, Answered, short, idle, asks-streams, asks-maps, cuts, finishes, ends, fails, fed}
use Rattle.state_store.specs.Places.{head_size, state_size}
use Rattle.layout.specs.Lent.{result_size}
use Rattle.state_store.specs.Flat.{flat_row, flat_values, call_flat, staged, flat_of}
use Rattle.state_store.specs.Store.{guard_row, flag, life_bytes, token_bytes, whole_head, head_row, head_values, head_from, head_at, head_of, core_of, whole, params_bytes, sound_of, sound_bytes}
use Rattle.layout.specs.Lent.{Made}
use Rattle.state_store.specs.Calls.{Told, told, lengths, call_in, feed_in, fail_in, Opened, setting_up_with, open_as, open_in, open_capture_in, new_in}
use Rattle.state_store.specs.FlatLaws.{core-same, head-whole}
use Rattle.state_store.specs.OverLaws.{head_bytes, head-sized}
use Rattle.state_store.specs.StoreLaws.{core_at, head-back}
use Rattle.state_store.specs.OpenLaws.{gate_in, open_by, set-up-long, opened-by}
use Rattle.state_store.specs.Types.{Refusal, Written, Verdict, Track, Counts, Call, Xfer, Capture, Stage, Idle, JacksAsked, StreamsAsked, MapsAsked, Sent, Core, Sound, Effect, Nothing, FillJacks, FillStreams, FillMaps, Store, Move, Look, Plan, Gate, SetUp, Open, Head}

-- ---- a core whose numbers fit their widths, as every core of the code does

-- the ten fields of a call
abbrev pub FitCall : Call → Type 0
FitCall call = Fit (drop 2 flat_row) (drop 2 (flat_values (call_flat call)))

abbrev pub FitStage : Stage → Type 0
FitStage Idle = Unit {0}
FitStage (JacksAsked call) = FitCall call
FitStage (StreamsAsked call) = FitCall call
FitStage (MapsAsked call) = FitCall call
FitStage (Sent call) = FitCall call

abbrev FitCounts : Counts → Type 0
FitCounts n = Fit (4 ∷ 4 ∷ 4 ∷ []) (n.jacks ∷ n.streams ∷ n.maps ∷ [])

pub record FitCore (c : Core) : Type 0 where
  pub counts : FitCounts c.counts
  pub read : FitCounts c.read
  pub stage : FitStage c.stage

flag-fits : (b : Bool) → pick b 1 0 < 256 ^ 1
flag-fits true = lit< tt
flag-fits false = lit< tt

module _ (ready : Bool) where
  -- what a call has no use for is 0
  staged-fits : (n : ℕ) (call : Call) → n < 256 ^ 1 → FitCall call → Fit flat_row (flat_values (staged ready n (call_flat call)))
  staged-fits n call k h = (flag-fits ready, (k, h))

  flat-fits : (g : Stage) → FitStage g → Fit flat_row (flat_values (flat_of ready g))
  flat-fits Idle h = (flag-fits ready, (lit< tt, (lit< tt, (lit< tt, (lit< tt, (lit< tt, (lit< tt, (lit< tt, (lit< tt, (lit< tt, (lit< tt, (lit< tt, tt))))))))))))
  flat-fits (JacksAsked call) h = staged-fits 1 call (lit< tt) h
  flat-fits (StreamsAsked call) h = staged-fits 2 call (lit< tt) h
  flat-fits (MapsAsked call) h = staged-fits 3 call (lit< tt) h
  flat-fits (Sent call) h = staged-fits 4 call (lit< tt) h

  stage-fits : (g : Stage) → Fit flat_row (flat_values (flat_of ready g)) → FitStage g
  stage-fits Idle h = tt
  stage-fits (JacksAsked call) h = h.1.1
  stage-fits (StreamsAsked call) h = h.1.1
  stage-fits (MapsAsked call) h = h.1.1
  stage-fits (Sent call) h = h.1.1

-- fields that follow fields
fit-more : (ws vs us ts : List ℕ) → Fit ws vs → Fit us ts → Fit (ws ++ us) (vs ++ ts)
fit-more [] [] us ts f g = g
fit-more [] (v ∷ vs) us ts f g = absurd f
fit-more (w ∷ ws) [] us ts f g = absurd f
fit-more (w ∷ ws) (v ∷ vs) us ts f g = (f.0, fit-more ws vs us ts f.1 g)

fit-front : (ws vs us ts : List ℕ) → length vs ≡ length ws → Fit (ws ++ us) (vs ++ ts) → Fit ws vs
fit-front [] [] us ts e f = tt
fit-front [] (v ∷ vs) us ts e f = absurd (omega arith)
fit-front (w ∷ ws) [] us ts e f = absurd (omega arith)
fit-front (w ∷ ws) (v ∷ vs) us ts e f = (f.0, fit-front ws vs us ts (omega arith) f.1)

guard-fits : (b : Bool) → flag b < 256 ^ 8
guard-fits true = lit< tt
guard-fits false = lit< tt

pub head-fits : (c : Core) → FitCore c → Fit head_row (head_values (head_of c))
head-fits c f =
    let g = fit-more flat_row (flat_values (flat_of c.ready c.stage)) guard_row (flag c.guard ∷ 0 ∷ []) (flat-fits c.ready c.stage f.stage) (guard-fits c.guard, (lit< tt, tt)) in
    (f.counts.0, (f.counts.1.0, (f.counts.1.1.0, (f.read.0, (f.read.1.0, (f.read.1.1.0, g))))))

fits_head : (c : Core) → Fit head_row (head_values (head_of c)) → FitCore c
fits_head c h =
    let r = h.1.1.1 in
    record { counts = (h.0, (h.1.0, (h.1.1.0, tt))); read = (r.0, (r.1.0, (r.1.1.0, tt))); stage = stage-fits c.ready c.stage (fit-front flat_row (flat_values (flat_of c.ready c.stage)) guard_row (flag c.guard ∷ 0 ∷ []) refl r.1.1.1) }

-- what a whole store holds fits
pub store-fits : (s : List ℕ) → Bytes s → whole s ≡ true → FitCore (sound_of s).core
unfolding head_at
store-fits s b w =
    subst FitCore (sym (core_at s))
    (fits_head (core_of (head_at s)) (subst (λ (h : Head). Fit head_row (head_values h)) (sym (core-same (head_at s) w)) (read_fits 0 head_row s b)))

-- ---- a call and an answer keep it

no-counts : FitCounts (record { jacks = 0; streams = 0; maps = 0 })
no-counts = (lit< tt, (lit< tt, (lit< tt, tt)))

counted-fits : (v : Verdict) (n : ℕ) → n < 256 ^ 4 → counted v n < 256 ^ 4
counted-fits v n h = picked-by (λ (k : ℕ). k < 256 ^ 4) (is_good v) n 0 (λ _. h) (λ _. lit< tt)

own-fits : {c : Core} {look : Look} {call : Call} {p : Plan} → FitCore c → FitCall call → Own c look call p → FitCore p.core
own-fits f k (sends _ _ _) = record { counts = f.counts; read = f.read; stage = k }
own-fits f k (commands _ _) = record { counts = f.counts; read = f.read; stage = k }
own-fits f k (remaps _ _ _) = record { counts = f.counts; read = f.read; stage = k }
own-fits f k lists = record { counts = f.counts; read = f.read; stage = tt }
own-fits f k (tells _) = record { counts = f.counts; read = f.read; stage = tt }
own-fits f k (refuses _ _) = record { counts = f.counts; read = f.read; stage = tt }

pub begun-fits : {c : Core} {call : Call} {look : Look} {p : Plan} → FitCore c → FitCall call → Begun c call look p → FitCore p.core
begun-fits f k (bars _) = f
begun-fits f k (asks _ _ _ _) = record { counts = f.counts; read = f.read; stage = k }
begun-fits f k (goes _ _ _ _ o) = own-fits f k o

pub waits : {c : Core} (g : Stage) → FitCore c → c.stage ≡ g → FitStage g
waits g f e = subst FitStage e f.stage

pub answered-fits : {c : Core} {v : Verdict} {look : Look} {long : Bool} {p : Plan} → FitCore c → Answered c v look long p → FitCore p.core
answered-fits f (short _) = f
answered-fits f (idle _) = f
answered-fits {c} {v} f (asks-streams {call} _ g) = record { counts = f.counts; read = (counted-fits v c.counts.jacks f.counts.0, (lit< tt, (lit< tt, tt))); stage = waits (JacksAsked call) f g }
answered-fits f (asks-maps {call} _ g _) = record { counts = f.counts; read = (f.read.0, (f.counts.1.0, (lit< tt, tt))); stage = waits (StreamsAsked call) f g }
answered-fits f (cuts _ _ _ _ _) = record { counts = f.counts; read = no-counts; stage = tt }
answered-fits {c} {v} f (finishes {call} _ g o) =
    own-fits (record { counts = f.counts; read = (f.read.0, (f.read.1.0, (counted-fits v c.counts.maps f.counts.1.1.0, tt))); stage = f.stage }) (waits (MapsAsked call) f g) o
answered-fits f (ends _ _ _) = record { counts = f.counts; read = f.read; stage = tt }
answered-fits f (fails _ _ _) = record { counts = f.counts; read = f.read; stage = tt }

-- a transfer that waits for set-up
pub waiting-fits : (capture : Bool) (stream : ℕ) → stream < 256 ^ 4 → FitCall (waiting_as capture stream)
waiting-fits true stream k = let z : 0 < 256 ^ 4 = lit< tt in (lit< tt, (lit< tt, (k, (z, (z, (z, (lit< tt, (lit< tt, (lit< tt, (lit< tt, tt))))))))))
waiting-fits false stream k = let z : 0 < 256 ^ 4 = lit< tt in (lit< tt, (lit< tt, (k, (z, (z, (z, (lit< tt, (lit< tt, (lit< tt, (lit< tt, tt))))))))))

pub set-up-fits : (c : Core) (call : Call) → FitCore c → FitCall call → FitCore (with_stage c (JacksAsked call))
set-up-fits c call f k = record { counts = f.counts; read = f.read; stage = k }

pub new-fits : (on : Bool) (jacks streams maps : ℕ) → jacks < 256 ^ 4 → streams < 256 ^ 4 → maps < 256 ^ 4 → FitCore (new_core on jacks streams maps)
new-fits on jacks streams maps j k m = record { counts = (j, (k, (m, tt))); read = no-counts; stage = tt }

-- ---- a store in which a state was written

head-before : (l vs : List ℕ) → head_at (sets l head_size vs) ≡ head_at l
unfolding head_at
head-before l vs = ap head_from (read-own 0 head_row (sets l head_size vs) ∙ ap (read_at 0 head_row) (bytes_at-before vs l head_size 0 head_size (omega arith)) ∙ sym (read-own 0 head_row l))

pub left-head : (s : List ℕ) (x : Sound) → FitCore x.core → head_size ≤ length s → head_at (sets s 0 (sound_bytes x)) ≡ head_of x.core
unfolding sound_bytes
left-head s x f l =
    let h = head_bytes x.core in
    let rest = x.tables ++ (rows_bytes params_bytes x.params ++ (rows_bytes life_bytes x.lives ++ rows_bytes token_bytes x.pending.tokens)) in
    let e : 0 + length h ≡ head_size = zero-add (length h) ∙ head-sized x.core in
    ap head_at (sym (sets_then s 0 head_size h rest (sym e)))
    ∙ head-before (sets s 0 h) rest
    ∙ ap head_at (sets-eq h s 0 (rw e l))
    ∙ head-back (head_of x.core) (drop (0 + length h) s) (head-fits x.core f)

pub left-whole : (s : List ℕ) (x : Sound) → FitCore x.core → head_size ≤ length s → whole (sets s 0 (sound_bytes x)) ≡ true
left-whole s x f l = ap whole_head (left-head s x f l) ∙ head-whole x.core

-- ---- THE CALLS

after-core : (e : Effect) (c : Core) (x : Sound) (page : List ℕ) → (sound_after e c x page).core ≡ c
after-core Nothing c x page = refl
after-core (FillJacks n) c x page = refl
after-core (FillStreams n) c x page = refl
after-core (FillMaps n) c x page = refl
after-core (Store stream to) c x page = refl
after-core (Move stream life) c x page = refl

module _ (s m r : List ℕ) (b : Bytes s) (w : whole s ≡ true) where
  told-whole : (p : Plan) (page : List ℕ) → FitCore p.core → lengths s r ≡ true → whole (told s p page m r).state ≡ true
  told-whole p page f l =
      let k : state_size ≤ length s = leb-true state_size (length s) (both (nat_le state_size (length s)) (nat_le result_size (length r)) l).0 in
      let x = sound_after p.effect p.core (sound_of s) page in
      ap whole (picks (whole s) (sets s 0 (sound_bytes x)) s w)
      ∙ left-whole s x (subst FitCore (sym (after-core p.effect p.core (sound_of s) page)) f) (omega arith)

  pub call-whole : (t : Track) (call : Call) → FitCall call → whole (call_in s t call m r).state ≡ true
  unfolding call_in
  call-whole t call k =
      guarded-by (λ (x : Told). whole x.state ≡ true) _ _ _
      (told-whole (call_of (sound_of s) t call (length m)) [] (begun-fits (store-fits s b w) k (begun (sound_of s) t call (length m)))) (λ _. w)

  fed-whole : (f : Feed) → lengths s r ≡ true → whole (told s (plan_of (sound_of s) f) (page_of f) m r).state ≡ true
  fed-whole f = told-whole (plan_of (sound_of s) f) (page_of f) (answered-fits (store-fits s b w) (fed (sound_of s) f))

  pub feed-whole : (y : Written) (page : List ℕ) → whole (feed_in y s page m r).state ≡ true
  unfolding feed_in
  feed-whole y page = guarded-by (λ (x : Told). whole x.state ≡ true) _ _ _ (fed-whole (paged y page (length m))) (λ _. w)

  pub fail-whole : whole (fail_in s m r).state ≡ true
  unfolding fail_in
  fail-whole = guarded-by (λ (x : Told). whole x.state ≡ true) _ _ _ (fed-whole (failed (length m))) (λ _. w)

  set-up-whole : (call : Call) → FitCall call → state_size ≤ length s → whole (setting_up_with s call m).state ≡ true
  set-up-whole call k l =
      let p = set_up_with (sound_of s) call in
      let x = sound_after p.effect p.core (sound_of s) [] in
      ap whole (picks (whole s) (sets s 0 (sound_bytes x)) s w) ∙ left-whole s x (set-up-fits (sound_of s).core call (store-fits s b w) k) (omega arith)

  opens-whole : (capture : Bool) (call : Call) (t : Track) (stream : ℕ) → FitCall call → whole (open_as capture call s t stream m).state ≡ true
  opens-whole capture call t stream k = opened-by capture call s m t stream (λ (o : Opened). whole o.state ≡ true) by
    where
      by : (g : Result Gate Refusal) → g ≡ gate_in capture call s m t stream → whole (open_by capture call s m t stream g).state ≡ true
      by (Err x) e = w
      by (Ok SetUp) e = set-up-whole call k (set-up-long capture call s m t stream e).0
      by (Ok (Open period)) e = w

  pub open-whole : (t : Track) (stream : ℕ) → stream < 256 ^ 4 → whole (open_in s t stream m).state ≡ true
  unfolding open_in
  open-whole t stream k = opens-whole false (Xfer stream) t stream (waiting-fits false stream k)

  pub open-capture-whole : (t : Track) (stream : ℕ) → stream < 256 ^ 4 → whole (open_capture_in s t stream m).state ≡ true
  unfolding open_capture_in
  open-capture-whole t stream k = opens-whole true (Capture stream) t stream (waiting-fits true stream k)

pub new-whole : (on : Bool) (s : List ℕ) (jacks streams maps : ℕ) → jacks < 256 ^ 4 → streams < 256 ^ 4 → maps < 256 ^ 4 → (new_in on s jacks streams maps).answer ≡ 0 → whole (new_in on s jacks streams maps).store ≡ true
new-whole on s jacks streams maps j k m =
    guarded-by (λ (x : Made). x.answer ≡ 0 → whole x.store ≡ true) _ _ _
    (λ l _. left-whole s (new_sound on jacks streams maps) (new-fits on jacks streams maps j k m) (omega (arith, leb-true state_size (length s) l)))
    (λ _ e. absurd (omega arith))
