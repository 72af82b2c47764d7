-- What no request changes: the counts, the tables, and how many streams are kept count of. A control request plays nothing, and a transfer sets nothing.
-- Assumes nothing.
use Rattle.std.specs.Prelude.{◌≡◌, ℕ, ◌+◌, ◌-◌, ◌%◌, ◌^◌, Bool, true, false, ◌&&◌, List, length, ◌==◌, nat_le, nat_lt, slice_index, refl, Result, Ok, Err}
use Rattle.std.proofs.Common.{length-set}
use Rattle.layout.specs.Bytes.{num_at}
use Rattle.layout.specs.Layout.{size, read}
use Rattle.codes.specs.Says.{pick}
use Rattle.codes.specs.declared.answers.Refusal.{Refusal}
use Rattle.model.specs.Types.{RequestCode, RJackInfo, RJackRemap, RPcmInfo, RPcmSetParams, RPcmPrepare, RPcmRelease, RPcmStart, RPcmStop, RChmapInfo, SetParameters, Device}
use Rattle.records.specs.Records.{query, pcm_command, set_parameters, transfer, jack_info, pcm_info, channel_map, query_of, set_parameters_of, jack_bytes, pcm_bytes, map_bytes}
use Rattle.model.specs.Control.{Outcome, bad, ok, query_fits, rows_in, table, kept_by, setting_of, command_of, answer_by, answer_found, request_by, outcome_of}
use Rattle.model.specs.Transfer.{stream_of, plays, played_by, device_after}

pub record Kept (d e : Device) : Type 0 where
  pub counts : e.counts ≡ d.counts
  pub jacks : e.jacks ≡ d.jacks
  pub pcms : e.pcms ≡ d.pcms
  pub maps : e.maps ≡ d.maps
  pub params : length e.params ≡ length d.params
  pub played : length e.played ≡ length d.played

-- what holds of both ends of a test
either : {A : Type 0} (P : A → Type 0) (t : Bool) (a b : A) → P a → P b → P (pick t a b)
either P true a b p q = p
either P false a b p q = q

stays : (d : Device) → Kept d d
stays d = record { counts = refl; jacks = refl; pcms = refl; maps = refl; params = refl; played = refl }

-- what holds of both ends of a request holds of what it leaves
module _ (P : Device → Type 0) (s : List ℕ) (d : Device) (p : P d) where
  abbrev asked : SetParameters
  asked = set_parameters_of (read set_parameters s)

  -- a control request leaves the device as it was, or with the parameters of one stream set
  module _ (q : P (kept_by d asked.stream (record { known = 1; set = asked }))) where
    abbrev Leaves : Outcome → Type 0
    Leaves o = P o.device

    table-leaves : {A : Type 0} (g : A → List ℕ) (size n : ℕ) (rows : List A) → Leaves (table g s size n rows d)
    table-leaves g size n rows =
        let x = query_of (read query s) in
        either Leaves (query_fits s size n) (record { device = d; bytes = rows_in g x.start x.count rows }) (bad d) p p

    setting-leaves : Leaves (setting_of s d)
    setting-leaves = either Leaves (length s == size set_parameters && nat_lt asked.stream d.counts.streams) (ok (kept_by d asked.stream (record { known = 1; set = asked }))) (bad d) q p

    command-leaves : Leaves (command_of s d)
    command-leaves = either Leaves (length s == size pcm_command) (ok d) (bad d) p p

    by_code : (c : RequestCode) → Leaves (answer_by c s d)
    by_code RJackInfo = table-leaves jack_bytes (size jack_info) d.counts.jacks d.jacks
    by_code RJackRemap = p
    by_code RPcmInfo = table-leaves pcm_bytes (size pcm_info) d.counts.streams d.pcms
    by_code RPcmSetParams = setting-leaves
    by_code RPcmPrepare = command-leaves
    by_code RPcmRelease = command-leaves
    by_code RPcmStart = command-leaves
    by_code RPcmStop = command-leaves
    by_code RChmapInfo = table-leaves map_bytes (size channel_map) d.counts.maps d.maps

    by-found : (f : Result RequestCode Refusal) → Leaves (answer_found f s d)
    by-found (Ok c) = by_code c
    by-found (Err r) = p

    pub control-leaves : P (outcome_of s d).device
    unfolding outcome_of
    control-leaves = either Leaves (nat_le 4 (length s)) (answer_found (request_by (num_at 0 4 s)) s d) (bad d) (by-found (request_by (num_at 0 4 s))) p

  -- a transfer leaves the device as it was, or with the bytes of one stream counted
  pub transfer-leaves : P (played_by d (stream_of s) (length s - size transfer)) → P (device_after d s)
  transfer-leaves q = either P (plays d.counts s) (played_by d (stream_of s) (length s - size transfer)) d q p

module _ (s : List ℕ) (d : Device) where
  pub control-keeps : Kept d (outcome_of s d).device
  control-keeps =
      let p = set_parameters_of (read set_parameters s) in
      control-leaves (Kept d) s d (stays d)
      (record { counts = refl; jacks = refl; pcms = refl; maps = refl; params = length-set d.params p.stream (record { known = 1; set = p }); played = refl })

  pub control-plays-nothing : (outcome_of s d).device.played ≡ d.played
  control-plays-nothing = control-leaves (λ (e : Device). e.played ≡ d.played) s d refl refl

  pub transfer-keeps : Kept d (device_after d s)
  transfer-keeps =
      let i = stream_of s in
      transfer-leaves (Kept d) s d (stays d)
      (record { counts = refl; jacks = refl; pcms = refl; maps = refl; params = refl; played = length-set d.played i ((slice_index d.played i + (length s - size transfer)) % 2 ^ 64) })

  pub transfer-sets-nothing : (device_after d s).params ≡ d.params
  transfer-sets-nothing = transfer-leaves (λ (e : Device). e.params ≡ d.params) s d refl refl
