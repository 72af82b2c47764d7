-- Theorems: "Keep each as the received records in one flat byte store and read fields when asked. .. No answer or refusal changes." In the decoded form, effects and
-- answers are as they were when the state held it.
-- Assumes nothing.
use Rattle.std.specs.Prelude.{◌≡◌, ℕ, ◌&&◌, List, [], length, nat_le, refl, Err}
use Rattle.std.proofs.Common.{ap}
use Rattle.layout.specs.Lent.{message_size}
use Rattle.layout.specs.Layout.{size}
use Rattle.codes.specs.Says.{guard}
use Rattle.records.specs.Records.{jack_info, pcm_info, channel_map}
use Rattle.tables.specs.Tables.{page_ok, refilled, jack_at, pcm_at, map_at, tables_bytes}
use Rattle.tables.specs.FillLaws.{jacks-filled, jacks-leave-pcms, jacks-leave-maps, pcms-leave-jacks, pcms-filled, pcms-leave-maps, maps-leave-jacks, maps-leave-pcms, maps-filled}
use Rattle.tables.specs.declared.verdict.Fault.TheVariants as fault
use Rattle.sound_core.specs.Plan.{refuse_of, begin_of, answer_of, verdict_by}
use Rattle.sound_core.specs.Reply.{reply_of}
use Rattle.exchange.specs.State.{jacks_of, pcms_of, maps_of}
use Rattle.exchange.specs.Tables.{look_by, pending_by, sound_after}
use Rattle.exchange.specs.Exchange.{list_of, step_of, call_of, feed_of, fail_of}
use Rattle.exchange.specs.Feed.{Feed, paged, failed, fed_of}
use Rattle.exchange.specs.Types.{JackInfo, PcmInfo, ChannelMap, QueueFailed, BadLength, Track, Call, Core, Sound, Effect, Nothing, FillJacks, FillStreams, FillMaps, Store, Move, Plan}

-- ---- the effect

-- the three tables, decoded
pub record Decoded : Type 0 where
  pub jacks : List JackInfo
  pub pcms : List PcmInfo
  pub maps : List ChannelMap

abbrev pub decoded_of : Sound → Decoded
decoded_of s = record { jacks = jacks_of s; pcms = pcms_of s; maps = maps_of s }

-- what an effect does to them: one is filled from a page that holds its records, or none
abbrev pub decoded_after : Effect → List ℕ → Decoded → Decoded
decoded_after Nothing page d = d
decoded_after (FillJacks n) page d = record { jacks = refilled jack_at (size jack_info) page n d.jacks; pcms = d.pcms; maps = d.maps }
decoded_after (FillStreams n) page d = record { jacks = d.jacks; pcms = refilled pcm_at (size pcm_info) page n d.pcms; maps = d.maps }
decoded_after (FillMaps n) page d = record { jacks = d.jacks; pcms = d.pcms; maps = refilled map_at (size channel_map) page n d.maps }
decoded_after (Store stream to) page d = d
decoded_after (Move stream life) page d = d

-- FILLING BYTES IS FILLING THE DECODED TABLE, at each of the three places, and the other two are as they were
pub fill-decoded : (x : Effect) (c : Core) (s : Sound) (page : List ℕ) → length s.tables ≡ tables_bytes → decoded_of (sound_after x c s page) ≡ decoded_after x page (decoded_of s)
fill-decoded Nothing c s page l = refl
fill-decoded (FillJacks n) c s page l = λ i. record { jacks = jacks-filled n page s.tables l i; pcms = jacks-leave-pcms n page s.tables i; maps = jacks-leave-maps n page s.tables i }
fill-decoded (FillStreams n) c s page l = λ i. record { jacks = pcms-leave-jacks n page s.tables i; pcms = pcms-filled n page s.tables l i; maps = pcms-leave-maps n page s.tables i }
fill-decoded (FillMaps n) c s page l = λ i. record { jacks = maps-leave-jacks n page s.tables i; pcms = maps-leave-pcms n page s.tables i; maps = maps-filled n page s.tables l i }
fill-decoded (Store stream to) c s page l = refl
fill-decoded (Move stream life) c s page l = refl

-- ---- the answers

-- two states with one core, one decoded form of jacks and streams, and one lifecycle of each stream; their bytes may be others
pub record Alike (s u : Sound) : Type 0 where
  pub core : s.core ≡ u.core
  pub jacks : jacks_of s ≡ jacks_of u
  pub pcms : pcms_of s ≡ pcms_of u
  pub lives : s.lives ≡ u.lives

module _ (s u : Sound) (a : Alike s u) where
  -- what a plan answers
  abbrev Same : Plan → Plan → List ℕ → Type 0
  Same p q page = ((step_of p s page).reply ≡ (step_of q u page).reply) × ((step_of p s page).streams ≡ (step_of q u page).streams)

  same_by : {p q : Plan} (page : List ℕ) → p ≡ q → Same p q page
  same_by page e = (ap (λ (p : Plan). reply_of p.say) e, λ i. list_of (e i).say (e i).core.read.streams (a.pcms i))

  -- THE SAME ANSWERS: reply and list of streams are made of the core, the decoded jacks and streams, and the lifecycles alone
  pub same-answers : (t : Track) (call : Call) (n : ℕ) → Same (call_of s t call n) (call_of u t call n) []
  unfolding call_of
  same-answers t call n =
      same_by [] (λ i. guard (nat_le message_size n) (refuse_of (a.core i) BadLength) (begin_of (a.core i) t call (look_by (a.jacks i) (a.pcms i) (a.lives i) call)))

  pub same-answers-feed : (f : Feed) → ((fed_of s f).reply ≡ (fed_of u f).reply) × ((fed_of s f).streams ≡ (fed_of u f).streams)
  unfolding feed_of fail_of
  same-answers-feed (paged w page n) =
      same_by page
      (λ i. guard (page_ok w page && nat_le message_size n) (refuse_of (a.core i) BadLength)
      (answer_of (a.core i) (verdict_by w (a.core i).stage (a.core i).counts page) (pending_by (a.jacks i) (a.pcms i) (a.lives i) (a.core i).stage)))
  same-answers-feed (failed n) =
      same_by []
      (λ i. guard (nat_le message_size n) (refuse_of (a.core i) BadLength)
      (answer_of (a.core i) (Err (fault.Refused QueueFailed)) (pending_by (a.jacks i) (a.pcms i) (a.lives i) (a.core i).stage)))
