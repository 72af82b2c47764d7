-- A conversation of the driver and the model device: the driver's request goes to the device, and the page that it answers in is fed to the driver.
-- Each step is what the contracts of the calls, of `feed` and of `control` say.
-- Assumes nothing.
use Rattle.std.specs.Prelude.{◌≡◌, ℕ, ◌^◌, ◌<◌, ◌≤◌, true, false, List, [], length, take, slice_index, slice_index_or, None, Result, Ok, Err}
use Rattle.layout.specs.Layout.{Fit}
use Rattle.records.specs.Records.{jack_info, jack_info_values, pcm_info, pcm_info_values, channel_map, channel_map_values, jack_info_of, pcm_info_of, channel_map_of}
use Rattle.pending.specs.Table.{none_in}
use Rattle.turns.specs.Calls.{idle_of}
use Rattle.turns.specs.Consistent as ring
use Rattle.sound_core.specs.Reply.{message_after}
use Rattle.sound_core.specs.declared.state.Counts.{Counts}
use Rattle.sound_core.specs.declared.plan.Value.TheVariants as value
use Rattle.sound_core.specs.declared.reply.Reply.TheVariants as reply
use Rattle.exchange.specs.State.{new_sound}
use Rattle.exchange.specs.Kept.{Kept}
use Rattle.exchange.specs.Exchange.{step_of, call_of, feed_of}
use Rattle.model.specs.Device.{within_of}
use Rattle.model.specs.Control.{control_of}
use Rattle.worked.specs.Types.{Track, Call, Idle, Plan, Reply, Sound, Step, Device, Refusal}

-- where both stand: what the driver gave last (its state, its reply, its list of streams), the device, the answer page, and the message buffer
pub record Talk : Type 0 where
  pub driver : Step
  pub device : Device
  pub page : List ℕ
  pub message : List ℕ

-- what a plan on a state comes to, fed with some page or with none
abbrev pub talk_of : Plan → Sound → List ℕ → Device → List ℕ → List ℕ → Talk
talk_of p s fed d page message = record { driver = step_of p s fed; device = d; page = page; message = message_after p.say message }

-- A CALL opens it
abbrev pub opened : Sound → Track → Call → Device → List ℕ → List ℕ → Talk
opened s t call d page message = talk_of (call_of s t call (length message)) s [] d page message

-- the device answers a request in the page, and the page is fed to the driver
abbrev pub fed_with : List ℕ → Talk → Talk
fed_with request x =
    let s = x.driver.sound in
    let g = control_of x.device request x.page in
    talk_of (feed_of None s g.lent (length x.message)) s g.lent g.answered.device g.lent x.message

-- ONE EXCHANGE: of a request of n bytes the first n of the message go to the device; after a result there is none. The page carries over
abbrev pub relay_by : Result Reply Refusal → Talk → Talk
relay_by (Ok (reply.Send n)) x = fed_with (take n x.message) x
relay_by (Ok (reply.Done v)) x = x
relay_by (Err r) x = x

unfoldable pub relay : Talk → Talk
relay x = relay_by x.driver.reply x

-- ---- what the theorems take

-- a device of no more records than a page holds. All but `within` holds of every value of the Rattle struct: arrays have their lengths, and
-- each field of a record, and each count, is a machine number of its width
pub record Fitting (d : Device) : Type 0 where
  pub within : within_of d.counts ≡ true
  pub jacks : length d.jacks ≡ 170
  pub pcms : length d.pcms ≡ 127
  pub maps : length d.maps ≡ 170
  pub params : length d.params ≡ 127
  pub played : length d.played ≡ 127
  pub jack : (i : ℕ) → i < d.counts.jacks → Fit jack_info (jack_info_values (slice_index_or d.jacks i (jack_info_of [])))
  pub pcm : (i : ℕ) → i < d.counts.streams → Fit pcm_info (pcm_info_values (slice_index_or d.pcms i (pcm_info_of [])))
  pub map : (i : ℕ) → i < d.counts.maps → Fit channel_map (channel_map_values (slice_index_or d.maps i (channel_map_of [])))
  pub count : (i : ℕ) → i < d.counts.streams → slice_index d.played i < 2 ^ 64

-- what is lent: a ring on which no transfer runs and nothing is in flight, a page of 4,096 bytes that holds anything, and a message buffer that
-- answer 10 does not refuse
pub record Lent (t : Track) (page message : List ℕ) : Type 0 where
  pub consistent : ring.consistent_of t ≡ true
  pub idle : idle_of t ≡ true
  pub whole : length page ≡ 4096
  pub long : 24 ≤ length message

-- the device's counts, as the driver is configured with them, and the driver's new state, without the guard
abbrev pub counts_of : Device → Counts
counts_of d = record { jacks = d.counts.jacks; streams = d.counts.streams; maps = d.counts.maps }

abbrev pub new_for : Device → Sound
new_for d = new_sound false d.counts.jacks d.counts.streams d.counts.maps

-- a driver without the guard that has done set-up with the device, with no exchange open and nothing pending, and what is lent
pub record Settled (s : Sound) (t : Track) (d : Device) (page message : List ℕ) : Type 0 where
  pub state : Kept s
  pub off : s.core.guard ≡ false
  pub ready : s.core.ready ≡ true
  pub closed : s.core.stage ≡ Idle
  pub counts : s.core.counts ≡ counts_of d
  pub clear : none_in s.pending ≡ true
  pub device : Fitting d
  pub lent : Lent t page message

-- ---- what they say of a call that is sent

-- a call, x, and the exchange after it, y: a request of n bytes goes out, the driver says Ok (number 0, no values), and all is ready for the next call
pub record Took (t : Track) (n : ℕ) (request : List ℕ) (x y : Talk) : Type 0 where
  pub asks : x.driver.reply ≡ Ok (reply.Send n)
  pub sent : take n x.message ≡ request
  pub says : y.driver.reply ≡ Ok (reply.Done value.Nothing)
  pub settled : Settled y.driver.sound t y.device y.page y.message
