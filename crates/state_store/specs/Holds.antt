-- THE STORE HOLDS what the call by value leaves: each number fits its width, so nothing is cut off. A store that is not whole stays, and so does its state.
-- Assumes nothing.
use Rattle.std.specs.Prelude.{◌≡◌, ℕ, zero, suc, ◌+◌, ◌*◌, ◌^◌, ◌<◌, ◌≤◌, Bool, true, false, ◌&&◌, List, [], length, replicate, nat_le, slice_set, refl, Result, Ok, Err}
use Rattle.std.proofs.Common.{sym, ap, ◌∙◌, arith, lit<, length-set, le-leb}
use Rattle.std.proofs.Math.Path.{subst}
use Rattle.std.proofs.lemmas.Bool.{false≢true}
use Rattle.std.proofs.lemmas.List.{length-replicate}
use Rattle.std.proofs.lemmas.List.Edits.{sets}
use Rattle.layout.specs.Bytes.{un, bytes_at, num_at, Bytes}
use Rattle.layout.specs.Layout.{Fit, write}
use Rattle.layout.specs.BytesLaws.{num_at-below, length-bytes_at, bytes-bytes_at}
use Rattle.layout.specs.Rows.{rows_bytes}
use Rattle.layout.specs.RowsLaws.{length-rows}
use Rattle.layout.specs.WrittenLaws.{bytes-append, bytes-write, bytes-rows, bytes-sets, Again, over-again}
use Rattle.layout.specs.All.{All}
use Rattle.layout.specs.AllLaws.{set-ok, replicate-ok, rows_ok}
use Rattle.codes.specs.Says.{pick, guard}
use Rattle.codes.specs.SaysLaws.{guarded-by}
use Rattle.tables.specs.Tables.{fits, is_good, jacks_place, pcms_place, maps_place, tables_bytes, copied_in}
use Rattle.tables.specs.FillLaws.{copied-length}
use Rattle.turns.specs.Calls.{start_call, start_traced}
use Rattle.turns.specs.Capture.{capture_start}
use Rattle.turns.specs.Consistent as ring
use Rattle.turns.specs.declared.ring.Step as ring-step
use Rattle.turns.specs.ConsistentLaws.{both}
use Rattle.pending.specs.Table.{free_token, none_in}
use Rattle.sound_core.specs.State.{unset, new_core}
use Rattle.exchange.specs.State.{new_sound, params_of}
use Rattle.sound_core.specs.Consistent.{consistent_of, stream_ok}
use Rattle.sound_core.specs.Plan.{effect_of, kind_life}
use Rattle.exchange.specs.Tables.{moved, sound_after}
use Rattle.exchange.specs.Exchange.{step_of, call_of, feed_of, fail_of}
use Rattle.exchange.specs.Feed.{Feed, paged, failed, plan_of, page_of}
use Rattle.exchange.specs.Xfer.{gate_as, waiting_as, set_up_with, set_up_step_with, start_as, start_of, start_traced_of, capture_of}
use Rattle.exchange.specs.OwnLaws.{picked-by}
use Rattle.exchange.specs.PlanLaws.{begun, Answered, short, idle, asks-streams, asks-maps, cuts, finishes, ends, fails, fed}
use Rattle.exchange.specs.StayLaws.{called-quiet}
use Rattle.exchange.specs.StepLaws.{start_by, started-as}
use Rattle.state_store.specs.Types.{Written, Refusal, Verdict, Track, Ring, Params, Kind, Prepare, Release, Start, Stop, Call, SetParams, Command, Remap, Streams, Supported, Xfer, Capture, Sent, Core, Sound, Token, Effect, Nothing, FillJacks, FillStreams, FillMaps, Store, Move, Look, Plan, Gate, SetUp, Open, XferStep}
use Rattle.state_store.specs.Places.{head_size, params_place, lives_place, tokens_place, state_size}
use Rattle.state_store.specs.Store.{whole, life_row, life_at, life_bytes, token_row, token_in, token_bytes, params_row, params_at, sound_of, sound_bytes, state_after, head_row, head_values, head_of, params_bytes}
use Rattle.layout.specs.Lent.{Made, message_size}
use Rattle.state_store.specs.Calls.{Told, told, too_short, lengths, call_in, feed_in, fail_in, Opened, setting_up_with, open_as, open_in, open_capture_in, new_in}
use Rattle.state_store.specs.StoreLaws.{params_values, life_values, token_values, Fits, store-back}
use Rattle.state_store.specs.OpenLaws.{gate_in, open_by, opens, opened-by}
use Rattle.state_store.specs.WholeLaws.{FitCall, FitCore, head-fits, store-fits, begun-fits, waits, answered-fits, waiting-fits, set-up-fits, new-fits}
use Rattle.state_store.specs.RefusedLaws.{Barred, begun-barred, answered-barred, not-whole}
use Rattle.state_store.specs.FinishLaws.{long-state}

-- ---- rows that fit

abbrev ParamsFit : Params → Type 0
ParamsFit x = Fit params_row (params_values x)

abbrev LifeFits : ℕ → Type 0
LifeFits x = Fit life_row (life_values x)

params_fit : (o : ℕ) (s : List ℕ) → Bytes s → ParamsFit (params_at o s)
unfolding params_at
params_fit o s b =
    (num_at-below o 1 s b, (num_at-below (o + 1) 1 s b, (num_at-below (o + 2) 1 s b, (num_at-below (o + 3) 1 s b, (num_at-below (o + 4) 4 s b, (num_at-below (o + 8) 4 s b, (num_at-below (o + 12) 4 s b, tt)))))))

life-fits : (o : ℕ) (s : List ℕ) → Bytes s → LifeFits (life_at o s)
unfolding life_at
life-fits o s b = (num_at-below o 1 s b, tt)

abbrev TokenFits : Token → Type 0
TokenFits x = Fit token_row (token_values x)

token-fits : (o : ℕ) (s : List ℕ) → Bytes s → TokenFits (token_in o s)
unfolding token_in
token-fits o s b = (num_at-below o 4 s b, (num_at-below (o + 4) 4 s b, tt))

-- WHAT A WHOLE STORE HOLDS FITS
pub sound-fits : (s : List ℕ) → Bytes s → whole s ≡ true → Fits (sound_of s)
unfolding sound_of
sound-fits s b w =
    record {
      core = head-fits (sound_of s).core (store-fits s b w);
      params = rows_ok ParamsFit params_at 16 params_fit params_place 127 s b;
      lives = rows_ok LifeFits life_at 1 life-fits lives_place 127 s b;
      tokens = rows_ok TokenFits token_in 8 token-fits tokens_place 32 s b;
      tables-12224 = length-bytes_at head_size tables_bytes s;
      params-127 = length-rows params_at 16 params_place 127 s;
      lives-127 = length-rows life_at 1 lives_place 127 s;
      tokens-32 = length-rows token_in 8 tokens_place 32 s;
    }

-- ---- A PLAN THAT FITS leaves a state that fits

abbrev EffectFits : Effect → Type 0
EffectFits Nothing = Unit {0}
EffectFits (FillJacks n) = Unit {0}
EffectFits (FillStreams n) = Unit {0}
EffectFits (FillMaps n) = Unit {0}
EffectFits (Store stream to) = ParamsFit to
EffectFits (Move stream life) = LifeFits life

abbrev PlanFits : Plan → Type 0
PlanFits p = FitCore p.core × EffectFits p.effect

module _ (c : Core) (k : FitCore c) (x : Sound) (f : Fits x) (page : List ℕ) (b : Bytes page) where
  -- a table, and its length
  abbrev Table : {A : Type 0} → (A → Type 0) → ℕ → List A → Type 0
  Table Fit n xs = All Fit xs × (length xs ≡ n)

  parts-fit : (t : List ℕ) (qs : List Params) (vs : List ℕ) → length t ≡ tables_bytes → Table ParamsFit 127 qs → Table LifeFits 127 vs → Fits (record { core = c; tables = t; params = qs; lives = vs; pending = x.pending })
  parts-fit t qs vs l q v =
      record {
        core = head-fits c k;
        params = q.0;
        lives = v.0;
        tokens = f.tokens;
        tables-12224 = l;
        params-127 = q.1;
        lives-127 = v.1;
        tokens-32 = f.tokens-32;
      }

  params : Table ParamsFit 127 x.params
  params = (f.params, f.params-127)

  lives : Table LifeFits 127 x.lives
  lives = (f.lives, f.lives-127)

  moved-fits : (guard : Bool) (stream life : ℕ) → LifeFits life → Table LifeFits 127 (moved guard x.lives stream life)
  moved-fits true stream life h = (set-ok LifeFits x.lives stream life f.lives h, length-set x.lives stream life ∙ f.lives-127)
  moved-fits false stream life h = lives

  filled-fits : (o bytes n : ℕ) → Fits (record { core = c; tables = copied_in o bytes n page x.tables; params = x.params; lives = x.lives; pending = x.pending })
  filled-fits o bytes n = parts-fit _ x.params x.lives (copied-length o bytes n page x.tables ∙ f.tables-12224) params lives

  after-fits : (e : Effect) → EffectFits e → Fits (sound_after e c x page)
  after-fits Nothing h = parts-fit x.tables x.params x.lives f.tables-12224 params lives
  after-fits (FillJacks n) h = filled-fits jacks_place 24 n
  after-fits (FillStreams n) h = filled-fits pcms_place 32 n
  after-fits (FillMaps n) h = filled-fits maps_place 24 n
  after-fits (Store stream to) h =
      parts-fit x.tables (slice_set x.params stream to) (moved c.guard x.lives stream 0)
      f.tables-12224 (set-ok ParamsFit x.params stream to f.params h, length-set x.params stream to ∙ f.params-127) (moved-fits c.guard stream 0 (lit< tt, tt))
  after-fits (Move stream life) h = parts-fit x.tables x.params (moved c.guard x.lives stream life) f.tables-12224 params (moved-fits c.guard stream life h)

-- ---- the plans of a call and of an answer fit

kind_fits : (kind : Kind) → kind_life kind < 256 ^ 1
kind_fits Prepare = lit< tt
kind_fits Release = lit< tt
kind_fits Start = lit< tt
kind_fits Stop = lit< tt

-- what is stored is what the call that waited asked for
effect-fits : (call : Call) → FitCall call → EffectFits (effect_of call)
effect-fits (SetParams stream to) k =
    let v = k.1.1.1 in
    let n = v.1.1.1.1 in
    (lit< tt, (n.0, (n.1.0, (n.1.1.0, (v.0, (v.1.0, (v.1.1.0, tt)))))))
effect-fits (Command kind stream) k = (kind_fits kind, tt)
effect-fits (Remap jack association sequence) k = tt
effect-fits (Streams direction) k = tt
effect-fits (Supported field stream) k = tt
effect-fits (Xfer stream) k = tt
effect-fits (Capture stream) k = tt

answered-effect : {c : Core} {v : Verdict} {look : Look} {long : Bool} {p : Plan} → FitCore c → Answered c v look long p → EffectFits p.effect
answered-effect f (short _) = tt
answered-effect f (idle _) = tt
answered-effect {v} f (asks-streams _ _) = picked-by EffectFits (is_good v) (FillJacks _) Nothing (λ _. tt) (λ _. tt)
answered-effect f (asks-maps _ _ _) = tt
answered-effect f (cuts _ _ _ _ _) = tt
answered-effect {v} f (finishes _ _ _) = picked-by EffectFits (is_good v) (FillMaps _) Nothing (λ _. tt) (λ _. tt)
answered-effect f (ends {call} _ g _) = effect-fits call (waits (Sent call) f g)
answered-effect f (fails _ _ _) = tt

no-page : Bytes []
no-page k = lit< tt

-- ---- a plan carried out on a store

-- one that is barred changes nothing
barred-keeps : (x : Sound) {p : Plan} (page : List ℕ) → Barred x.core p → (step_of p x page).sound ≡ x
barred-keeps x page k = ap (λ (p : Plan). (step_of p x page).sound) k.is

held : (s : List ℕ) → Bytes s → state_size ≤ length s → (p : Plan) (page : List ℕ) → Bytes page → (whole s ≡ true → PlanFits p) → (whole s ≡ false → (step_of p (sound_of s) page).sound ≡ sound_of s)
    → sound_of (state_after s (step_of p (sound_of s) page).sound) ≡ (step_of p (sound_of s) page).sound
held s b h p page c f k =
    let x = (step_of p (sound_of s) page).sound in
    picked-by (λ (l : List ℕ). sound_of l ≡ x) (whole s) (sets s 0 (sound_bytes x)) s
    (λ w. store-back s x (after-fits p.core (f w).0 (sound_of s) (sound-fits s b w) page c p.effect (f w).1) h) (λ w. sym (k w))

-- ---- THE STATE THAT A CALL LEAVES IN A STORE is the one that the call by value leaves

module _ (s m r : List ℕ) (b : Bytes s) (l : lengths s r ≡ true) where
  told-holds : (p : Plan) (page : List ℕ) → Bytes page → (whole s ≡ true → PlanFits p) → (whole s ≡ false → Barred (sound_of s).core p)
      → sound_of (guard (lengths s r) (too_short s m r)
      (told s p page m r)).state ≡ (step_of p (sound_of s) page).sound
  told-holds p page c f k =
      guarded-by (λ (x : Told). sound_of x.state ≡ (step_of p (sound_of s) page).sound) _ _ _
      (λ _. held s b (long-state s r l) p page c f (λ w. barred-keeps (sound_of s) page (k w))) (λ e. absurd (false≢true (sym e ∙ l)))

  pub call-holds : (t : Track) (call : Call) → FitCall call → sound_of (call_in s t call m r).state ≡ (step_of (call_of (sound_of s) t call (length m)) (sound_of s) []).sound
  unfolding call_in
  call-holds t call k =
      let x = sound_of s in
      let o = begun x t call (length m) in
      told-holds (call_of x t call (length m)) [] no-page
      (λ w. (begun-fits (store-fits s b w) k o, subst EffectFits (sym (called-quiet x t call (length m))) tt)) (λ w. begun-barred x.core (not-whole s w) o)

  fed-holds : (f : Feed) → Bytes (page_of f) → sound_of (guard (lengths s r) (too_short s m r)
      (told s (plan_of (sound_of s) f) (page_of f) m r)).state ≡ (step_of (plan_of (sound_of s) f) (sound_of s) (page_of f)).sound
  fed-holds f c =
      let x = sound_of s in
      let o = fed x f in
      told-holds (plan_of x f) (page_of f) c (λ w. let k = store-fits s b w in (answered-fits k o, answered-effect k o)) (λ w. answered-barred x.core (not-whole s w) o)

  pub feed-holds : (w : Written) (page : List ℕ) → Bytes page → sound_of (feed_in w s page m r).state ≡ (step_of (feed_of w (sound_of s) page (length m)) (sound_of s) page).sound
  unfolding feed_in
  feed-holds w page c = fed-holds (paged w page (length m)) c

  pub fail-holds : sound_of (fail_in s m r).state ≡ (step_of (fail_of (sound_of s) (length m)) (sound_of s) []).sound
  unfolding fail_in
  fail-holds = fed-holds (failed (length m)) no-page

-- ---- the start of a transfer

-- set-up is begun only where state and ring passed the test
set-up-passed : (a b : Bool) (rest : Result Gate Refusal) (x y : Refusal) → (Ok SetUp) ≡ guard a (Err y)
    (guard b (Err x)
    rest) → b ≡ true
unfolding guard
set-up-passed true true rest x y e = refl
set-up-passed true false rest x y e = let z : ◌≡◌ {A = ℕ} 0 1 = cc in absurd (omega arith)
set-up-passed false b rest x y e = let z : ◌≡◌ {A = ℕ} 0 1 = cc in absurd (omega arith)

module _ (s m : List ℕ) (b : Bytes s) (h : state_size ≤ length s) (r : Ring) (stream : ℕ) (k : stream < 256 ^ 4) where
  abbrev t : Track
  t = r.track

  abbrev x : Sound
  x = sound_of s

  module _ (capture : Bool) (call : Call) (fits : FitCall call) where
    consistent : (Ok SetUp) ≡ gate_in capture call s m t stream → consistent_of x.core ≡ true
    consistent e = (both (consistent_of x.core) (ring.consistent_of t && stream_ok x.core (params_of x stream) stream) (set-up-passed _ _ _ _ _ e)).0

    set-up-holds : (Ok SetUp) ≡ gate_in capture call s m t stream → sound_of (setting_up_with s call m).state ≡ (set_up_step_with x r call).sound
    set-up-holds e = held s b h (set_up_with x call) [] no-page (λ w. (set-up-fits x.core call (store-fits s b w) fits, tt)) (λ w. absurd (false≢true (sym (not-whole s w) ∙ consistent e)))

  -- whatever is done to the ring where the checks are passed
  opens-holds : (capture : Bool) (begin : ℕ → ring-step.Step) → sound_of (open_as capture (waiting_as capture stream) s r.track stream m).state ≡ (start_as capture begin x r stream (length m)).sound
  opens-holds capture begin =
      let call = waiting_as capture stream in
      let g = gate_in capture call s m t stream in
      let none = none_in x.pending in
      let e : g ≡ gate_as capture (nat_le message_size (length m)) none x t stream = ap (λ (a : Bool). gate_as capture (a && nat_le message_size (length m)) none x t stream) (le-leb state_size (length s) h) in
      ap (λ (o : Opened). sound_of o.state) (sym (opens capture call s m t stream g refl))
      ∙ by g refl
      ∙ ap (λ (y : XferStep). y.sound) (started-as capture begin x r stream (length m) (none_in x.pending) g refl e)
    where
      by : (g : Result Gate Refusal) → g ≡ gate_in capture (waiting_as capture stream) s m t stream → sound_of (open_by capture (waiting_as capture stream) s m t stream g).state ≡ (start_by capture begin x r stream g).sound
      by (Err y) e = refl
      by (Ok SetUp) e = set-up-holds capture (waiting_as capture stream) (waiting-fits capture stream k) e
      by (Ok (Open period)) e = refl

  -- whatever the transfer's length and budget are
  pub open-holds : (len budget : ℕ) → sound_of (open_in s r.track stream m).state ≡ (start_of (sound_of s) r stream len budget (length m)).sound
  unfolding open_in start_of
  open-holds len budget = opens-holds false (λ period. start_call r.track stream len period budget)

  pub open-traced-holds : (len budget room : ℕ) → sound_of (open_in s r.track stream m).state ≡ (start_traced_of (sound_of s) r stream len budget room (length m)).sound
  unfolding open_in start_traced_of
  open-traced-holds len budget room = opens-holds false (λ period. start_traced r.track stream len period budget room)

  pub open-capture-holds : (periods lent budget : ℕ) → sound_of (open_capture_in s r.track stream m).state ≡ (capture_of (sound_of s) r stream periods lent budget (length m)).sound
  unfolding open_capture_in capture_of
  open-capture-holds periods lent budget = opens-holds true (λ period. capture_start r.track stream periods period lent budget)

-- ---- a new state: its tables are of what is read where no byte stands

pub new-holds : (on : Bool) (s : List ℕ) (jacks streams maps : ℕ) → state_size ≤ length s → jacks < 256 ^ 4 → streams < 256 ^ 4 → maps < 256 ^ 4 → sound_of (new_in on s jacks streams maps).store ≡ new_sound on jacks streams maps
unfolding params_at life_at num_at un bytes_at
new-holds on s jacks streams maps h j k m =
    guarded-by (λ (x : Made). sound_of x.store ≡ new_sound on jacks streams maps) _ _ _
    (λ _. store-back s (new_sound on jacks streams maps) fits h) (λ e. absurd (false≢true (sym e ∙ le-leb state_size (length s) h)))
  where
    fits : Fits (new_sound on jacks streams maps)
    fits =
        record {
          core = head-fits (new_core on jacks streams maps) (new-fits on jacks streams maps j k m);
          params = replicate-ok ParamsFit 127 unset (params_fit 0 [] no-page);
          lives = replicate-ok LifeFits 127 0 (lit< tt, tt);
          tokens = replicate-ok TokenFits 32 free_token (lit< tt, (lit< tt, tt));
          tables-12224 = length-replicate {A = ℕ} tables_bytes 0;
          params-127 = refl;
          lives-127 = refl;
          tokens-32 = refl;
        }

-- ---- what a call leaves is a store again

bytes-sound : (x : Sound) → Bytes x.tables → Bytes (sound_bytes x)
unfolding sound_bytes
bytes-sound x t =
    bytes-append (write head_row (head_values (head_of x.core))) _ (bytes-write head_row (head_values (head_of x.core)))
    (bytes-append x.tables _ t
    (bytes-append (rows_bytes params_bytes x.params) _ (bytes-rows params_bytes (λ p. bytes-write params_row (params_values p)) x.params)
    (bytes-append (rows_bytes life_bytes x.lives) _ (bytes-rows life_bytes (λ l. bytes-write life_row (life_values l)) x.lives)
    (bytes-rows token_bytes (λ t. bytes-write token_row (token_values t)) x.pending.tokens))))

-- tables that were filled from a page are bytes
bytes-copied : (o bytes n : ℕ) (page t : List ℕ) → Bytes page → Bytes t → Bytes (copied_in o bytes n page t)
unfolding copied_in
bytes-copied o bytes n page t p b = by (fits page n bytes && nat_le (o + n * bytes) (length t))
  where
    by : (g : Bool) → Bytes (pick g (sets t o (bytes_at 4 (n * bytes) page)) t)
    by true = bytes-sets (bytes_at 4 (n * bytes) page) t o b (bytes-bytes_at 4 (n * bytes) page p)
    by false = b

bytes_after : (e : Effect) (c : Core) (x : Sound) (page : List ℕ) → Bytes page → Bytes x.tables → Bytes (sound_after e c x page).tables
bytes_after Nothing c x page p b = b
bytes_after (FillJacks n) c x page p b = bytes-copied jacks_place 24 n page x.tables p b
bytes_after (FillStreams n) c x page p b = bytes-copied pcms_place 32 n page x.tables p b
bytes_after (FillMaps n) c x page p b = bytes-copied maps_place 24 n page x.tables p b
bytes_after (Store stream to) c x page p b = b
bytes_after (Move stream life) c x page p b = b

bytes-tables : (s : List ℕ) → Bytes s → Bytes (sound_of s).tables
unfolding sound_of
bytes-tables s b = bytes-bytes_at head_size tables_bytes s b

module _ (s m r : List ℕ) (b : Bytes s) where
  after-again : (q : Plan) (page : List ℕ) → Bytes page → Again s (state_after s (sound_after q.effect q.core (sound_of s) page))
  after-again q page p = by (whole s)
    where
      x : Sound
      x = sound_after q.effect q.core (sound_of s) page

      by : (w : Bool) → Again s (pick w (sets s 0 (sound_bytes x)) s)
      by true = over-again s (sound_bytes x) b (bytes-sound x (bytes_after q.effect q.core (sound_of s) page p (bytes-tables s b)))
      by false = (b, refl)

  pub call-again : (t : Track) (call : Call) → Again s (call_in s t call m r).state
  unfolding call_in
  call-again t call = guarded-by (λ (x : Told). Again s x.state) _ _ _ (λ _. after-again (call_of (sound_of s) t call (length m)) [] no-page) (λ _. (b, refl))

  pub feed-again : (w : Written) (page : List ℕ) → Bytes page → Again s (feed_in w s page m r).state
  unfolding feed_in
  feed-again w page p = guarded-by (λ (x : Told). Again s x.state) _ _ _ (λ _. after-again (feed_of w (sound_of s) page (length m)) page p) (λ _. (b, refl))

  pub fail-again : Again s (fail_in s m r).state
  unfolding fail_in
  fail-again = guarded-by (λ (x : Told). Again s x.state) _ _ _ (λ _. after-again (fail_of (sound_of s) (length m)) [] no-page) (λ _. (b, refl))

  opens-again : (capture : Bool) (call : Call) (t : Track) (stream : ℕ) → Again s (open_as capture call s t stream m).state
  opens-again capture call t stream = opened-by capture call s m t stream (λ (o : Opened). Again s o.state) by
    where
      by : (g : Result Gate Refusal) → g ≡ gate_in capture call s m t stream → Again s (open_by capture call s m t stream g).state
      by (Err x) e = (b, refl)
      by (Ok SetUp) e = after-again (set_up_with (sound_of s) call) [] no-page
      by (Ok (Open period)) e = (b, refl)

  pub open-again : (t : Track) (stream : ℕ) → Again s (open_in s t stream m).state
  unfolding open_in
  open-again t stream = opens-again false (Xfer stream) t stream

  pub open-capture-again : (t : Track) (stream : ℕ) → Again s (open_capture_in s t stream m).state
  unfolding open_capture_in
  open-capture-again t stream = opens-again true (Capture stream) t stream

bytes-zeros : (n : ℕ) → Bytes (replicate n 0)
bytes-zeros zero k = lit< tt
bytes-zeros (suc n) zero = lit< tt
bytes-zeros (suc n) (suc k) = bytes-zeros n k

pub new-again : (on : Bool) (s : List ℕ) → Bytes s → (jacks streams maps : ℕ) → Again s (new_in on s jacks streams maps).store
new-again on s b jacks streams maps =
    guarded-by (λ (x : Made). Again s x.store) _ _ _ (λ _. over-again s (sound_bytes (new_sound on jacks streams maps)) b (bytes-sound (new_sound on jacks streams maps) (bytes-zeros tables_bytes))) (λ _. (b, refl))
