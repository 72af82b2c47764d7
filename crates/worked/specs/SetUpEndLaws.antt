-- The end of set-up: the last page leaves the conversation that the same call opens on the state with set-up done.
-- Assumes nothing.
use Rattle.std.specs.Prelude.{◌≡◌, ℕ, ◌≤◌, true, false, List, [], length, take, Ok}
use Rattle.std.proofs.Math.Path.{refl, sym, ap}
use Rattle.std.proofs.Common.{◌∙◌}
use Rattle.std.proofs.lemmas.Bool.{false≢true}
use Rattle.codes.specs.Says.{guard}
use Rattle.tables.specs.Tables.{jack_at, pcm_at, map_at, jacks_place, pcms_place, tables_bytes, jacks_in, pcms_in, maps_in}
use Rattle.tables.specs.FillLaws.{copied-length, jacks-filled, pcms-leave-jacks, pcms-filled, maps-leave-jacks, maps-leave-pcms, maps-filled}
use Rattle.sound_core.specs.State.{with_stage}
use Rattle.sound_core.specs.Consistent.{call_ok, consistent_of}
use Rattle.sound_core.specs.Plan.{own_set, own_command, own_remap, own_supported, own_xfer, own_of, after_maps}
use Rattle.sound_core.specs.Reply.{request_bytes, message_after, reply_of}
use Rattle.sound_core.specs.declared.plan.Value.TheVariants as value
use Rattle.sound_core.specs.declared.plan.Say.TheVariants.{Done}
use Rattle.exchange.specs.FineLaws.{Allowed}
use Rattle.exchange.specs.OwnLaws.{own}
use Rattle.exchange.specs.StayLaws.{own-stays}
use Rattle.exchange.specs.Kept.{Kept}
use Rattle.exchange.specs.KeptLaws.{new-kept, step_kept}
use Rattle.exchange.specs.State.{jacks_of, pcms_of, maps_of}
use Rattle.exchange.specs.Tables.{look_by, look_of, sound_after}
use Rattle.exchange.specs.Exchange.{list_of, step_of}
use Rattle.worked.specs.Types.{Track, Call, SetParams, Command, Remap, Streams, Supported, Xfer, Capture, Stage, Idle, JacksAsked, StreamsAsked, MapsAsked, Core, Look, Effect, Nothing, FillJacks, FillStreams, FillMaps, Plan, Sound, Step, Device}
use Rattle.worked.specs.Talk.{Talk, talk_of, opened, relay, Fitting, Lent, new_for}
use Rattle.model.specs.Control.{laid}
use Rattle.worked.specs.TalkLaws.{after, Told, asked-length, calls}
use Rattle.worked.specs.SetUpLaws.{core_at, asked_jacks, asked_streams, asked_maps, finished, jacks_query, streams_query, maps_query, jacks_answer, streams_answer, maps_answer, jacks-ok, streams-ok, maps-ok, done_ok, opens, jacks-told, streams-told, maps-told, jacks-come, streams-come, maps-come}

-- a call's own part does not look at the stage, and looks at no map
own-stage : (c : Core) (g : Stage) (call : Call) (look : Look) → own_of (with_stage c g) call look ≡ own_of c call look
unfolding own_set own_command own_remap own_supported own_xfer
own-stage c g (SetParams stream to) look = refl
own-stage c g (Command kind stream) look = refl
own-stage c g (Remap jack association sequence) look = refl
own-stage c g (Streams direction) look = refl
own-stage c g (Supported field stream) look = refl
own-stage c g (Xfer stream) look = refl
own-stage c g (Capture stream) look = refl

same-look : (n : ℕ) (c : Core) (s : Sound) (page : List ℕ) (call : Call) → look_of s call ≡ look_of (sound_after (FillMaps n) c s page) call
same-look n c s page call = λ i. look_by (sym (maps-leave-jacks n page s.tables) i) (sym (maps-leave-pcms n page s.tables) i) s.lives call

-- a plan without an effect of its own, on the state before the maps are filled and on that with them
finishing : (p : Plan) (n : ℕ) (c : Core) (s : Sound) (page : List ℕ) → p.effect ≡ Nothing
    → step_of (record { core = p.core; say = p.say; effect = FillMaps n }) s page ≡ step_of p (sound_after (FillMaps n) c s page) []
finishing p n c s page quiet =
    λ i. record {
      sound = sound_after (sym quiet i) p.core (sound_after (FillMaps n) c s page) [];
      reply = reply_of p.say;
      streams = list_of p.say p.core.read.streams (sym (maps-leave-pcms n page s.tables) i);
    }

-- a table more, before set-up is done
fills : (s : Sound) (c : Core) (x : Effect) (page : List ℕ) → Allowed s.core x → c.counts ≡ s.core.counts → c.guard ≡ s.core.guard → s.core.ready ≡ false → consistent_of c ≡ true → Kept s → Kept (sound_after x c s page)
fills s c x page a n g r e k =
    step_kept s (record { core = c; say = Ok (Done value.Nothing); effect = x }) page k (record { counts = n; guard = g; ready = λ h. absurd (false≢true (sym r ∙ h)) }) (record { consistent = e; effect = a })

module _ (d : Device) (f : Fitting d) (call : Call) (fine : call_ok call ≡ true) where
  -- the last page
  ends : (t : Track) (p p₂ page m : List ℕ) → Lent t page m
      → after (after_maps (asked_maps d call p p₂).core call (Ok tt) (look_of (asked_maps d call p p₂) call)) (asked_maps d call p p₂) d page m ≡ opened (finished d call p p₂ page) t call d page m
  unfolding after_maps guard
  ends t p p₂ page m l =
      let n = d.counts.maps in
      let c = core_at d d.counts.jacks d.counts.streams n true Idle in
      let s = asked_maps d call p p₂ in
      let z = finished d call p p₂ page in
      let q = own_of c call (look_of z call) in
      ap (λ (x : Plan). talk_of (record { core = x.core; say = x.say; effect = FillMaps n }) s page d page m)
      (own-stage c (MapsAsked call) call (look_of s call) ∙ ap (own_of c call) (same-look n c s page call))
      ∙ ap (λ (x : Step). record { driver = x; device = d; page = page; message = message_after q.say m }) (finishing q n c s page (own-stays (own c (look_of z call) call)).1)
      ∙ sym
      (ap (λ (x : Plan). talk_of x z [] d page m)
      (calls z t call (length m) (done_ok d f call fine) refl l.consistent l.idle fine l.long))

  -- the pages and the message buffer, exchange by exchange
  module _ (page m : List ℕ) where
    abbrev pub jacks_page : List ℕ
    jacks_page = laid (jacks_answer d) page

    abbrev pub streams_page : List ℕ
    streams_page = laid (streams_answer d) jacks_page

    abbrev pub maps_page : List ℕ
    maps_page = laid (maps_answer d) streams_page

    abbrev m₁ : List ℕ
    m₁ = laid (request_bytes (jacks_query d)) m

    abbrev m₂ : List ℕ
    m₂ = laid (request_bytes (streams_query d)) m₁

    abbrev pub last_message : List ℕ
    last_message = laid (request_bytes (maps_query d)) m₂

    abbrev pub ready : Sound
    ready = finished d call jacks_page streams_page maps_page

    -- the tables before each answer
    abbrev t₀ : List ℕ
    t₀ = (asked_jacks d call).tables

    abbrev t₁ : List ℕ
    t₁ = (asked_streams d call jacks_page).tables

    abbrev t₂ : List ℕ
    t₂ = (asked_maps d call jacks_page streams_page).tables

    l₀ : length t₀ ≡ tables_bytes
    l₀ = (new-kept false d.counts.jacks d.counts.streams d.counts.maps).tables

    l₁ : length t₁ ≡ tables_bytes
    l₁ = copied-length jacks_place 24 d.counts.jacks jacks_page t₀ ∙ l₀

    l₂ : length t₂ ≡ tables_bytes
    l₂ = copied-length pcms_place 32 d.counts.streams streams_page t₁ ∙ l₁

    module _ (t : Track) (l : Lent t page m) where
      jacks-page : Told jack_at 24 d.counts.jacks d.jacks jacks_page
      jacks-page = jacks-told d f call fine page l.whole

      streams-page : Told pcm_at 32 d.counts.streams d.pcms streams_page
      streams-page = streams-told d f call fine jacks_page jacks-page.whole

      maps-page : Told map_at 24 d.counts.maps d.maps maps_page
      maps-page = maps-told d f call fine streams_page streams-page.whole

      -- the tables are the device's
      pub jacks-same : take d.counts.jacks (jacks_of ready) ≡ take d.counts.jacks d.jacks
      jacks-same =
          ap (take d.counts.jacks) (maps-leave-jacks d.counts.maps maps_page t₂ ∙ pcms-leave-jacks d.counts.streams streams_page t₁ ∙ jacks-filled d.counts.jacks jacks_page t₀ l₀)
          ∙ jacks-page.same (jacks_in t₀)

      pub pcms-same : take d.counts.streams (pcms_of ready) ≡ take d.counts.streams d.pcms
      pcms-same =
          ap (take d.counts.streams) (maps-leave-pcms d.counts.maps maps_page t₂ ∙ pcms-filled d.counts.streams streams_page t₁ l₁)
          ∙ streams-page.same (pcms_in t₁)

      pub maps-same : take d.counts.maps (maps_of ready) ≡ take d.counts.maps d.maps
      maps-same = ap (take d.counts.maps) (maps-filled d.counts.maps maps_page t₂ l₂) ∙ maps-page.same (maps_in t₂)

      h₁ : 24 ≤ length m₁
      h₁ = rw (asked-length 0x0001 d.counts.jacks 24 m l.long) l.long

      h₂ : 24 ≤ length m₂
      h₂ = rw (asked-length 0x0100 d.counts.streams 32 m₁ h₁) h₁

      pub lent-on : Lent t maps_page last_message
      lent-on = record { consistent = l.consistent; idle = l.idle; whole = maps-page.whole; long = rw (asked-length 0x0200 d.counts.maps 24 m₂ h₂) h₂ }

      -- THREE EXCHANGES
      pub three : relay (relay (relay (opened (new_for d) t call d page m))) ≡ opened ready t call d maps_page last_message
      three =
          ap (λ (x : Talk). relay (relay (relay x))) (opens d f call fine t page m l)
          ∙ ap (λ (x : Talk). relay (relay x)) (jacks-come d f call fine page l.whole m l.long)
          ∙ ap relay (streams-come d f call fine jacks_page jacks-page.whole m₁ h₁ jacks_page)
          ∙ maps-come d f call fine streams_page streams-page.whole m₂ h₂ jacks_page streams_page
          ∙ ends t jacks_page streams_page maps_page last_message lent-on

    -- the state is one that calls left
    pub ready-kept : Kept ready
    ready-kept =
        let j = d.counts.jacks in
        let n = d.counts.streams in
        let m = d.counts.maps in
        fills (asked_maps d call jacks_page streams_page) (core_at d j n m true Idle) (FillMaps m) maps_page tt refl refl refl (done_ok d f call fine)
        (fills (asked_streams d call jacks_page) (core_at d j n 0 false (MapsAsked call)) (FillStreams n) streams_page tt refl refl refl (maps-ok d f call fine)
        (fills (asked_jacks d call) (core_at d j 0 0 false (StreamsAsked call)) (FillJacks j) jacks_page tt refl refl refl (streams-ok d f call fine)
        (fills (new_for d) (core_at d 0 0 0 false (JacksAsked call)) Nothing [] tt refl refl refl (jacks-ok d f call fine) (new-kept false j n m))))
