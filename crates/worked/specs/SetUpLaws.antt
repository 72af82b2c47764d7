-- Set-up, query by query: what the driver sends, what the device answers, and the state that the page leaves.
-- Assumes nothing.
use Rattle.std.specs.Prelude.{◌≡◌, ℕ, ◌≤◌, Bool, true, false, List, [], length, refl, Ok}
use Rattle.std.proofs.Common.{ap}
use Rattle.codes.specs.Says.{guard}
use Rattle.records.specs.Records.{jack_info_of, pcm_info_of, channel_map_of, jack_bytes, pcm_bytes, map_bytes}
use Rattle.tables.specs.Tables.{jack_at, pcm_at, map_at}
use Rattle.sound_core.specs.Consistent.{call_ok, consistent_of}
use Rattle.sound_core.specs.Plan.{query_of, after_jacks, after_streams, after_maps}
use Rattle.sound_core.specs.Reply.{request_bytes}
use Rattle.exchange.specs.ConsistentLaws.{exactly-self, none_or_all-self}
use Rattle.exchange.specs.KeptLaws.{new-kept}
use Rattle.exchange.specs.Tables.{look_of, sound_after}
use Rattle.exchange.specs.Exchange.{listed}
use Rattle.model.specs.Control.{laid, rows_in}
use Rattle.model.specs.DeviceLaws.{few-jacks, few-streams, few-maps}
use Rattle.model.specs.ModelLaws.{jacks-answers, pcms-answers, maps-answers}
use Rattle.worked.specs.Types.{Track, Call, Stage, Idle, JacksAsked, StreamsAsked, MapsAsked, Core, Request, Nothing, FillJacks, FillStreams, FillMaps, Plan, Sound, Device}
use Rattle.worked.specs.Talk.{talk_of, opened, relay, Fitting, Lent, counts_of, new_for}
use Rattle.worked.specs.TalkLaws.{asking, after, calls, Told, told, queried}

-- the core with so many records read
abbrev pub core_at : Device → ℕ → ℕ → ℕ → Bool → Stage → Core
core_at d jacks streams maps ready g = record { counts = counts_of d; guard = false; read = record { jacks = jacks; streams = streams; maps = maps }; ready = ready; stage = g }

-- the state while the jacks, the streams, the maps are asked for; and with no exchange open, set-up done
module _ (d : Device) where
  abbrev pub asked_jacks : Call → Sound
  asked_jacks call = sound_after Nothing (core_at d 0 0 0 false (JacksAsked call)) (new_for d) []

  abbrev pub asked_streams : Call → List ℕ → Sound
  asked_streams call page = sound_after (FillJacks d.counts.jacks) (core_at d d.counts.jacks 0 0 false (StreamsAsked call)) (asked_jacks call) page

  abbrev pub asked_maps : Call → List ℕ → List ℕ → Sound
  asked_maps call page page₂ = sound_after (FillStreams d.counts.streams) (core_at d d.counts.jacks d.counts.streams 0 false (MapsAsked call)) (asked_streams call page) page₂

  abbrev pub finished : Call → List ℕ → List ℕ → List ℕ → Sound
  finished call page page₂ page₃ = sound_after (FillMaps d.counts.maps) (core_at d d.counts.jacks d.counts.streams d.counts.maps true Idle) (asked_maps call page page₂) page₃

  -- the three queries, and their answers
  abbrev pub jacks_query : Request
  jacks_query = query_of 0x0001 d.counts.jacks 24

  abbrev pub streams_query : Request
  streams_query = query_of 0x0100 d.counts.streams 32

  abbrev pub maps_query : Request
  maps_query = query_of 0x0200 d.counts.maps 24

  abbrev pub jacks_answer : List ℕ
  jacks_answer = rows_in jack_bytes 0 d.counts.jacks d.jacks

  abbrev pub streams_answer : List ℕ
  streams_answer = rows_in pcm_bytes 0 d.counts.streams d.pcms

  abbrev pub maps_answer : List ℕ
  maps_answer = rows_in map_bytes 0 d.counts.maps d.maps

module _ (d : Device) (f : Fitting d) (call : Call) (fine : call_ok call ≡ true) where
  pub jacks-ok : consistent_of (core_at d 0 0 0 false (JacksAsked call)) ≡ true
  unfolding consistent_of
  jacks-ok = fine

  pub streams-ok : consistent_of (core_at d d.counts.jacks 0 0 false (StreamsAsked call)) ≡ true
  unfolding consistent_of
  streams-ok = rw (none_or_all-self d.counts.jacks 170 (few-jacks d.counts f.within), fine)

  pub maps-ok : consistent_of (core_at d d.counts.jacks d.counts.streams 0 false (MapsAsked call)) ≡ true
  unfolding consistent_of
  maps-ok = rw (none_or_all-self d.counts.jacks 170 (few-jacks d.counts f.within), exactly-self d.counts.streams 127 (few-streams d.counts f.within), fine)

  pub done_ok : consistent_of (core_at d d.counts.jacks d.counts.streams d.counts.maps true Idle) ≡ true
  unfolding consistent_of
  done_ok = rw (none_or_all-self d.counts.jacks 170 (few-jacks d.counts f.within), exactly-self d.counts.streams 127 (few-streams d.counts f.within), none_or_all-self d.counts.maps 170 (few-maps d.counts f.within))

  pub opens : (t : Track) (page m : List ℕ) → Lent t page m → opened (new_for d) t call d page m ≡ asking (asked_jacks d call) (jacks_query d) (listed []) d page m
  opens t page m l =
      let s = new_for d in
      ap (λ (p : Plan). talk_of p s [] d page m)
      (calls s t call (length m) (new-kept false d.counts.jacks d.counts.streams d.counts.maps).consistent refl l.consistent l.idle fine l.long)

  module _ (page : List ℕ) (whole : length page ≡ 4096) where
    -- the three pages
    pub jacks-told : Told jack_at 24 d.counts.jacks d.jacks (laid (jacks_answer d) page)
    unfolding jack_at
    jacks-told = told (jacks-answers d f.within f.jacks) page whole (jack_info_of []) f.jack

    pub streams-told : Told pcm_at 32 d.counts.streams d.pcms (laid (streams_answer d) page)
    unfolding pcm_at
    streams-told = told (pcms-answers d f.within f.pcms) page whole (pcm_info_of []) f.pcm

    pub maps-told : Told map_at 24 d.counts.maps d.maps (laid (maps_answer d) page)
    unfolding map_at
    maps-told = told (maps-answers d f.within f.maps) page whole (channel_map_of []) f.map

    -- the three exchanges
    module _ (m : List ℕ) (long : 24 ≤ length m) where
      pub jacks-come : relay (asking (asked_jacks d call) (jacks_query d) (listed []) d page m)
          ≡ asking (asked_streams d call (laid (jacks_answer d) page)) (streams_query d) (listed []) d (laid (jacks_answer d) page) (laid (request_bytes (jacks_query d)) m)
      unfolding after_jacks guard
      jacks-come =
          queried (jacks-answers d f.within f.jacks) page whole (asked_jacks d call) (listed []) m f.within long jacks-ok (λ p. refl)

      pub streams-come : (p : List ℕ) → relay (asking (asked_streams d call p) (streams_query d) (listed []) d page m)
          ≡ asking (asked_maps d call p (laid (streams_answer d) page)) (maps_query d) (listed []) d (laid (streams_answer d) page) (laid (request_bytes (streams_query d)) m)
      unfolding after_streams guard
      streams-come p =
          queried (pcms-answers d f.within f.pcms) page whole (asked_streams d call p) (listed []) m f.within long streams-ok (λ p. refl)

      pub maps-come : (p p₂ : List ℕ) → let s = asked_maps d call p p₂ in
          relay (asking s (maps_query d) (listed []) d page m) ≡ after (after_maps s.core call (Ok tt) (look_of s call)) s d (laid (maps_answer d) page) (laid (request_bytes (maps_query d)) m)
      maps-come p p₂ =
          queried (maps-answers d f.within f.maps) page whole (asked_maps d call p p₂) (listed []) m f.within long maps-ok (λ p. refl)
