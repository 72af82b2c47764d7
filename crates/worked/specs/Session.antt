-- A WHOLE SESSION of the driver with the model device, by the theorems of Meets: their premises are met one after the other.
-- Assumes nothing.
use Rattle.std.specs.Prelude.{◌≡◌, ℕ, ◌+◌, ◌%◌, ◌^◌, ◌<◌, ◌≤◌, true, not, List, [], ◌∷◌, length, replicate, ◌==◌, slice_index, refl, Ok}
use Rattle.std.proofs.Common.{sym, ap, ◌∙◌, subst, inl, arith, lit<, eqb-true}
use Rattle.std.proofs.lemmas.Bool.{false≢true, not-true}
use Rattle.std.proofs.lemmas.List.{get_or-replicate}
use Rattle.layout.specs.Layout.{Fit}
use Rattle.codes.specs.Says.{says}
use Rattle.records.specs.Records.{set_parameters, set_parameters_values, jack_info, jack_info_values, pcm_info, pcm_info_values, channel_map, channel_map_values, jack_info_of, pcm_info_of, channel_map_of}
use Rattle.records.specs.declared.info.JackInfo.{JackInfo}
use Rattle.records.specs.declared.info.PcmInfo.{PcmInfo}
use Rattle.records.specs.declared.info.ChannelMap.{ChannelMap}
use Rattle.turns.specs.StaysConsistentLaws.{new-passes}
use Rattle.turns.specs.Ring.{direct, new_track}
use Rattle.turns.specs.Cut.{cut}
use Rattle.turns.specs.Log.{Ran}
use Rattle.turns.specs.ConsistentLaws.{both}
use Rattle.sound_core.specs.Consistent.{period_ok, numbers_ok}
use Rattle.sound_core.specs.Plan.{set_of, stored_of}
use Rattle.sound_core.specs.declared.plan.Value.TheVariants as value
use Rattle.sound_core.specs.declared.reply.Reply.TheVariants as reply
use Rattle.exchange.specs.State.{params_of}
use Rattle.exchange.specs.Kept.{Playable}
use Rattle.exchange.specs.Demand.{period_of, starting}
use Rattle.model.specs.Device.{new_device, within_of, params_says, played_says}
use Rattle.model.specs.DeviceLaws.{few-jacks, few-streams, few-maps}
use Rattle.model.specs.declared.device.Counts.{Counts}
use Rattle.worked.specs.Types.{Ring, Going, Done, Params, SetParams, Sound, Says, Device}
use Rattle.worked.specs.Talk.{Talk, opened, relay, Fitting, Lent, new_for, Settled}
use Rattle.worked.specs.Play.{Desk, attended}
use Rattle.worked.specs.Meets.{meets-set-up, meets-set-params, meets-transfer}

-- a stream that was set, on a driver at rest, can be played
playable : (s : Sound) (r : Ring) (d : Device) (stream : ℕ) (to : Params) (page message : List ℕ) → Settled s r.track d page message → params_of s stream ≡ stored_of to → Playable s r stream
playable s r d stream to page message o e =
    let i = both (not r.track.running) (r.track.inflight == 0) o.lent.idle in
    record {
      state = o.state;
      ring = o.lent.consistent;
      set = λ z. omega (arith, z, ap (λ (p : Params). p.known) e);
      live = λ g. absurd (false≢true (sym o.off ∙ g));
      closed = o.closed;
      still = not-true r.track.running i.0;
      empty = eqb-true r.track.inflight 0 i.1;
      clear = o.clear;
    }

-- the transfer that follows a conversation
abbrev pub then : Ring → ℕ → ℕ → List ℕ → Talk → Ran Desk
then r stream budget frames y = attended frames budget (starting y.driver.sound r stream budget (length y.message) frames).ring y.device

pub record Session (d : Device) (r : Ring) (stream : ℕ) (to : Params) (budget : ℕ) (frames : List ℕ) (y : Talk) : Type 0 where
  -- parameters were set: the driver said Ok, and the device holds what was sent
  pub set : y.driver.reply ≡ Ok (reply.Done value.Nothing)
  pub held : params_says y.device stream ≡ says 0 (set_parameters_values (set_of stream to))
  -- then the transfer starts, says Ok, and the device has counted what was played
  pub starts : (starting y.driver.sound r stream budget (length y.message) frames).reply ≡ Says Going
  pub plays : (then r stream budget frames y).said ≡ Done
  pub counted : played_says (then r stream budget frames y).at.device stream ≡ says 0 ((slice_index d.played stream + length frames) % 2 ^ 64 ∷ [])

-- A new driver's first call sets a stream's parameters, by set-up's three exchanges and its own; then frames are played on that stream
pub meets-session : (d : Device) (r : Ring) (stream : ℕ) (to : Params) (budget : ℕ) (page message frames : List ℕ) → Fitting d → Lent r.track page message
    → stream < d.counts.streams → period_ok to.buffer to.period ≡ true → numbers_ok to ≡ true → Fit set_parameters (set_parameters_values (set_of stream to))
    → length (cut to.period frames) + 1 ≤ budget
    → Session d r stream to budget frames (relay (relay (relay (relay (opened (new_for d) r.track (SetParams stream to) d page message)))))
meets-session d r stream to budget page message frames f l h period numbers fit enough =
    let a = meets-set-up d r.track (SetParams stream to) page message f l numbers in
    let b = meets-set-params a.sound r.track d stream to a.page a.message a.settled h period numbers fit in
    let o = b.0.settled in
    let y = relay (opened a.sound r.track (SetParams stream to) d a.page a.message) in
    let n : length (cut (period_of y.driver.sound stream) frames) + 1 ≤ budget = subst (λ (p : Params). length (cut p.period frames) + 1 ≤ budget) (sym b.2) enough in
    let c = meets-transfer y.driver.sound r y.device stream budget (length y.message) frames (playable y.driver.sound r y.device stream to y.page y.message o b.2) o.device o.counts o.lent.long n in
    subst (Session d r stream to budget frames) (sym (ap relay a.again))
    (record {
      set = b.0.says;
      held = b.3;
      starts = c.0;
      plays = c.1;
      counted = c.3 ∙ ap (λ (e : Device). says 0 ((slice_index e.played stream + length frames) % 2 ^ 64 ∷ [])) b.4;
    })

-- ---- these premises can be met: by a device of any counts that a page holds, with records of zeros, a new ring, a page of zeros, and a buffer of 24 bytes

abbrev no_jacks : List JackInfo
no_jacks = replicate 170 (jack_info_of [])

abbrev no_streams : List PcmInfo
no_streams = replicate 127 (pcm_info_of [])

abbrev no_maps : List ChannelMap
no_maps = replicate 170 (channel_map_of [])

pub can-meet : (n : Counts) → within_of n ≡ true → Fitting (new_device n no_jacks no_streams no_maps) × Lent (new_track direct) (replicate 4096 0) (replicate 24 0)
can-meet n w =
    let j = few-jacks n w in
    let p = few-streams n w in
    let m = few-maps n w in (
      record {
        within = w;
        jacks = refl;
        pcms = refl;
        maps = refl;
        params = refl;
        played = refl;
        jack = λ i h. subst (λ (x : JackInfo). Fit jack_info (jack_info_values x)) (sym (get_or-replicate 170 i (jack_info_of []) (jack_info_of []) (omega arith))) (lit< tt, (lit< tt, (lit< tt, (lit< tt, (lit< tt, (lit< tt, (lit< tt, (lit< tt, tt))))))));
        pcm = λ i h. subst (λ (x : PcmInfo). Fit pcm_info (pcm_info_values x)) (sym (get_or-replicate 127 i (pcm_info_of []) (pcm_info_of []) (omega arith))) (lit< tt, (lit< tt, (lit< tt, (lit< tt, (lit< tt, (lit< tt, (lit< tt, (lit< tt, (lit< tt, tt)))))))));
        map = λ i h. subst (λ (x : ChannelMap). Fit channel_map (channel_map_values x)) (sym (get_or-replicate 170 i (channel_map_of []) (channel_map_of []) (omega arith))) (lit< tt, (lit< tt, (lit< tt, (lit< tt, (lit< tt, (lit< tt, tt))))));
        count = λ i h. rw (get_or-replicate {A = ℕ} 127 i 0 0 (omega arith)) (lit< tt);
      },
      record { consistent = new-passes direct (inl refl); idle = refl; whole = refl; long = omega arith },
    )
