-- THE DRIVER MEETS THE DEVICE: what the driver's calls come to where the model device answers them. `Talk` defines the conversation.
-- Assumes nothing.
use Rattle.std.specs.Prelude.{◌≡◌, ℕ, ◌+◌, ◌%◌, ◌^◌, ◌<◌, ◌≤◌, Bool, true, false, List, [], ◌∷◌, length, take, replicate, slice_index, slice_set, refl}
use Rattle.std.proofs.Common.{sym, ap, ◌∙◌, subst, arith, get_or-set_same, ltb-true, lt-ltb}
use Rattle.layout.specs.Layout.{write, Fit}
use Rattle.layout.specs.LayoutLaws.{length-write}
use Rattle.codes.specs.Says.{says}
use Rattle.codes.specs.SaysLaws.{picks}
use Rattle.records.specs.Records.{pcm_command, set_parameters, set_parameters_values}
use Rattle.turns.specs.Asked as ring
use Rattle.turns.specs.Cut.{cut}
use Rattle.sound_core.specs.State.{unset, with_stage}
use Rattle.sound_core.specs.Consistent.{period_ok, numbers_ok, call_ok}
use Rattle.sound_core.specs.Plan.{kind_code, kind_life, set_of, own_of, stored_of}
use Rattle.sound_core.specs.Reply.{request_bytes}
use Rattle.sound_core.specs.Unguarded.{off-command}
use Rattle.sound_core.specs.declared.plan.Request.TheVariants as request
use Rattle.exchange.specs.State.{jacks_of, pcms_of, maps_of, params_of}
use Rattle.exchange.specs.Kept.{Playable}
use Rattle.exchange.specs.XferLaws.{set-range, period-divides, start_is}
use Rattle.exchange.specs.Demand.{period_of, starting}
use Rattle.exchange.specs.Tables.{look_of, moved}
use Rattle.exchange.specs.Exchange.{step_of}
use Rattle.model.specs.Device.{params_says, played_says}
use Rattle.model.specs.DeviceLaws.{and-passes, few-streams}
use Rattle.model.specs.Control.{kept_by}
use Rattle.model.specs.Transfer.{played_by}
use Rattle.model.specs.ModelLaws.{setting-answer, setting-held}
use Rattle.worked.specs.Types.{Track, Ring, Going, Done, Params, Kind, Call, SetParams, Command, Stage, Idle, Plan, Sound, Says, XferStep, Device}
use Rattle.worked.specs.Talk.{Talk, opened, relay, Fitting, Lent, counts_of, new_for, Settled, Took}
use Rattle.worked.specs.Play.{attended}
use Rattle.worked.specs.TalkLaws.{calls}
use Rattle.worked.specs.SetUpEndLaws.{maps_page, last_message, ready, ready-kept, jacks-same, pcms-same, maps-same, lent-on, three}
use Rattle.worked.specs.SentLaws.{result, took, command-taken, own-sends, kept-fitting}
use Rattle.worked.specs.PlayLaws.{Plays}
use Rattle.worked.specs.PlayedLaws.{transfer-ends}

-- ---- SET-UP

-- a conversation x in which set-up is done, and then the call's own part
pub record SetUp (t : Track) (call : Call) (d : Device) (x : Talk) : Type 0 where
  -- the state once set-up is done: no exchange is open, the guard is off, the table counts are as configured, and no parameters are set
  pub sound : Sound
  pub core : sound.core ≡ record { counts = counts_of d; guard = false; read = counts_of d; ready = true; stage = Idle }
  pub params : sound.params ≡ replicate 127 unset
  -- its records are just those of the device
  pub jacks : take d.counts.jacks (jacks_of sound) ≡ take d.counts.jacks d.jacks
  pub pcms : take d.counts.streams (pcms_of sound) ≡ take d.counts.streams d.pcms
  pub maps : take d.counts.maps (maps_of sound) ≡ take d.counts.maps d.maps
  -- what the call then gives is its own part, decided on that state; the device is as it was
  pub own : x.driver ≡ step_of (own_of sound.core call (look_of sound call)) sound []
  pub device : x.device ≡ d
  -- so the conversation goes on as if the call had been made on that state
  pub page : List ℕ
  pub message : List ℕ
  pub settled : Settled sound t d page message
  pub again : x ≡ opened sound t call d page message

-- "Set-up comes before the first call that needs it: query jacks, streams, channel maps, each from 0 with the configured count." On a new state with the
-- device's counts, any call whose numbers are in range, and three exchanges with the device, do set-up
pub meets-set-up : (d : Device) (t : Track) (call : Call) (page message : List ℕ) → Fitting d → Lent t page message → call_ok call ≡ true
    → SetUp t call d (relay (relay (relay (opened (new_for d) t call d page message))))
meets-set-up d t call page message f l fine =
    let e = three d f call fine page message t l in
    let s = ready d f call fine page message in
    let k = ready-kept d f call fine page message in
    let n = last_message d f call fine page message in
    let o = lent-on d f call fine page message t l in
    record {
      sound = s;
      core = refl;
      params = refl;
      jacks = jacks-same d f call fine page message t l;
      pcms = pcms-same d f call fine page message t l;
      maps = maps-same d f call fine page message t l;
      own = ap (λ (x : Talk). x.driver) e ∙ ap (λ (p : Plan). step_of p s []) (calls s t call (length n) k.consistent refl o.consistent o.idle fine o.long);
      device = ap (λ (x : Talk). x.device) e;
      page = maps_page d f call fine page message;
      message = n;
      settled = record { state = k; off = refl; ready = refl; closed = refl; counts = refl; clear = refl; device = f; lent = o };
      again = e;
    }

-- ---- A CALL THAT IS SENT

-- no exchange is open again, and without the guard no stream is moved
rests : (s : Sound) (t : Track) (d : Device) (page message : List ℕ) → Settled s t d page message → (params : List Params) (stream life : ℕ)
    → ◌≡◌ {A = Sound} (record { core = with_stage s.core Idle; tables = s.tables; params = params; lives = moved s.core.guard s.lives stream life; pending = s.pending })
    (record { core = s.core; tables = s.tables; params = params; lives = s.lives; pending = s.pending })
rests s t d page message o params stream life =
    ap (λ (g : Bool). record { core = with_stage s.core Idle; tables = s.tables; params = params; lives = moved g s.lives stream life; pending = s.pending }) o.off
    ∙ ap (λ (g : Stage). record { core = with_stage s.core g; tables = s.tables; params = params; lives = s.lives; pending = s.pending }) (sym o.closed)

-- "Status ok stores all seven values." The driver then holds them for that stream, the device holds just the 24 bytes that were sent, and both are else as they
-- were
pub meets-set-params : (s : Sound) (t : Track) (d : Device) (stream : ℕ) (to : Params) (page message : List ℕ) → Settled s t d page message
    → stream < d.counts.streams → period_ok to.buffer to.period ≡ true → numbers_ok to ≡ true → Fit set_parameters (set_parameters_values (set_of stream to))
    → let x = opened s t (SetParams stream to) d page message in
    let y = relay x in
    Took t 24 (write set_parameters (set_parameters_values (set_of stream to))) x y
    × (y.driver.sound ≡ record { core = s.core; tables = s.tables; params = slice_set s.params stream (stored_of to); lives = s.lives; pending = s.pending })
    × (params_of y.driver.sound stream ≡ stored_of to)
    × (params_says y.device stream ≡ says 0 (set_parameters_values (set_of stream to)))
    × (y.device ≡ kept_by d stream (record { known = 1; set = set_of stream to }))
meets-set-params s t d stream to page message o h period numbers fit =
    let v = set_of stream to in
    let q = request.Set v in
    let l : length (request_bytes q) ≡ 24 = length-write set_parameters (set_parameters_values v) in
    let own = own-sends s.core stream to (look_of s (SetParams stream to)) o.off period (rw o.counts h) in
    let e = kept_by d stream (record { known = 1; set = v }) in
    let out = setting-answer d v fit refl h in
    let y = result s t d (SetParams stream to) q page message o numbers own (omega arith) e out in
    let few = few-streams d.counts o.device.within in
    let sound : (relay (opened s t (SetParams stream to) d page message)).driver.sound ≡ record { core = s.core; tables = s.tables; params = slice_set s.params stream (stored_of to); lives = s.lives; pending = s.pending } =
    ap (λ (z : Talk). z.driver.sound) y ∙ rests s t d page message o (slice_set s.params stream (stored_of to)) stream 0 in (
      took s t d (SetParams stream to) q page message o numbers own (omega arith) e out 24 l (kept-fitting d stream (record { known = 1; set = v }) o.device) refl,
      sound,
      ap (λ (z : Sound). params_of z stream) sound ∙ get_or-set_same s.params stream (stored_of to) unset (omega (arith, o.state.params)),
      ap (λ (z : Talk). params_says z.device stream) y ∙ setting-held d stream v o.device.within o.device.params h,
      ap (λ (z : Talk). z.device) y,
    )

-- "Prepare, release, start, stop: sent with any stream id, as in the Rust. Status ok or 2." Ok, and both are as they were
pub meets-command : (s : Sound) (t : Track) (d : Device) (kind : Kind) (stream : ℕ) (page message : List ℕ) → Settled s t d page message → stream < 256 ^ 4
    → let x = opened s t (Command kind stream) d page message in
    let y = relay x in
    Took t 8 (write pcm_command (kind_code kind ∷ stream ∷ [])) x y × (y.driver.sound ≡ s) × (y.device ≡ d)
meets-command s t d kind stream page message o h =
    let q = request.Command (record { code = kind_code kind; stream = stream }) in
    let l : length (request_bytes q) ≡ 8 = length-write pcm_command (kind_code kind ∷ stream ∷ []) in
    let out = command-taken d kind stream h in
    let own = off-command s.core o.off kind stream (look_of s (Command kind stream)) in
    let y = result s t d (Command kind stream) q page message o refl own (omega arith) d out in (
      took s t d (Command kind stream) q page message o refl own (omega arith) d out 8 l o.device refl,
      ap (λ (z : Talk). z.driver.sound) y ∙ rests s t d page message o s.params stream (kind_life kind),
      ap (λ (z : Talk). z.device) y,
    )

-- ---- A TRANSFER

-- "Frames are cut into periods of period_bytes, the last may be shorter; empty frames make none." Each of n periods is handed to the device on its turn, and is
-- completed on that turn: the transfer says Ok on turn n + 1. The device has counted the frames' bytes for that stream, "modulo 2^64", and is else as it was
pub meets-transfer : (s : Sound) (r : Ring) (d : Device) (stream budget m : ℕ) (frames : List ℕ) → Playable s r stream → Fitting d → s.core.counts ≡ counts_of d → 24 ≤ m
    → length (cut (period_of s stream) frames) + 1 ≤ budget
    → let x = starting s r stream budget m frames in
    let y = attended frames budget x.ring d in
    (x.reply ≡ Says Going)
    × (y.said ≡ Done)
    × (length y.log ≡ length (cut (period_of s stream) frames) + 1)
    × (played_says y.at.device stream ≡ says 0 ((slice_index d.played stream + length frames) % 2 ^ 64 ∷ []))
    × (y.at.device ≡ played_by d stream (length frames))
meets-transfer s r d stream budget m frames o f same long enough =
    let period = period_of s stream in
    let h : stream < d.counts.streams = rw same at (ltb-true stream s.core.counts.streams (set-range s o.state stream o.set)) in
    let few = few-streams d.counts f.within in
    let p : Plays d stream = record { within = f.within; range = h; size = f.played; count = f.count stream h } in
    let idle : ring.Idle r = record { consistent = o.ring; stopped = o.still; empty = o.empty } in
    let a = transfer-ends r d stream period budget frames idle p (period-divides s o.state stream o.set).some enough in
    let c = a.1 in
    let v = (slice_index d.played stream + length frames) % 2 ^ 64 in
    let count : played_says (played_by d stream (length frames)) stream ≡ says 0 (v ∷ []) =
    picks _ _ _ (and-passes _ _ f.within ∙ lt-ltb stream d.counts.streams h) ∙ ap (λ (n : ℕ). says 0 (n ∷ [])) (get_or-set_same d.played stream v 0 (omega (arith, f.played))) in
    subst
    (λ (x : XferStep).
    let y = attended frames budget x.ring d in
    (x.reply ≡ Says Going)
    × (y.said ≡ Done)
    × (length y.log ≡ length (cut period frames) + 1)
    × (played_says y.at.device stream ≡ says 0 (v ∷ []))
    × (y.at.device ≡ played_by d stream (length frames)))
    (start_is s r stream (length frames) budget m o long)
    (ap Says a.0, c.said, c.turns, ap (λ (x : Device). played_says x stream) c.device ∙ count, c.device)
