-- The model device: its tables, the parameters set for each stream, and the count of bytes played. What `fake.rs` keeps.
-- Assumes nothing.
use Rattle.std.specs.Prelude.{ℕ, Result, Ok, Err, Option, Some, None, Bool, ◌&&◌, List, [], ◌∷◌, replicate, ◌==◌, nat_le, nat_lt, slice_index, slice_index_or}
use Rattle.codes.specs.Says.{Says, says, pick}
use Rattle.codes.specs.Answers.{says_result}
use Rattle.codes.specs.declared.answers.Refusal.{Refusal}
use Rattle.codes.specs.declared.answers.Refusal.TheVariants.{InvalidParam}
use Rattle.records.specs.Records.{set_parameters_values, set_parameters_of}
use Rattle.model.specs.Types.{SetParameters, JackInfo, PcmInfo, ChannelMap, Counts, Held, Device}

-- "Tables of at most 170, 127 and 170 records": as many as a page of 4,096 bytes holds
abbrev pub most_jacks : ℕ
most_jacks = 170

abbrev pub most_streams : ℕ
most_streams = 127

abbrev pub most_maps : ℕ
most_maps = 170

abbrev pub few_of : ℕ → ℕ → ℕ → Bool
few_of jacks streams maps = nat_le jacks most_jacks && (nat_le streams most_streams && nat_le maps most_maps)

abbrev pub within_of : Counts → Bool
within_of n = few_of n.jacks n.streams n.maps

abbrev pub nothing : Held
nothing = record { known = 0; set = set_parameters_of [] }

-- a device of three tables, of which the first so many records count
abbrev pub new_device : Counts → List JackInfo → List PcmInfo → List ChannelMap → Device
new_device n jacks pcms maps = record { counts = n; jacks = jacks; pcms = pcms; maps = maps; params = replicate most_streams nothing; played = replicate most_streams 0 }

-- ---- reads: 1 for a device with larger counts, and for a stream too high

abbrev pub held_values : Option SetParameters → List ℕ
held_values (Some p) = set_parameters_values p
held_values None = []

abbrev pub says_held : Result (Option SetParameters) Refusal → Says
says_held = says_result held_values

abbrev pub held_says : Held → Says
held_says h = pick (h.known == 0) (says 0 []) (says 0 (set_parameters_values h.set))

abbrev pub stream_ok : Counts → ℕ → Bool
stream_ok n stream = within_of n && nat_lt stream n.streams

abbrev pub place_of : Counts → ℕ → Result ℕ Refusal
place_of n stream = pick (stream_ok n stream) (Ok stream) (Err InvalidParam)

abbrev pub params_says : Device → ℕ → Says
params_says d stream = pick (stream_ok d.counts stream) (held_says (slice_index_or d.params stream nothing)) (says 1 [])

abbrev pub says_count : Result ℕ Refusal → Says
says_count = says_result (λ n. n ∷ [])

abbrev pub played_says : Device → ℕ → Says
played_says d stream = pick (stream_ok d.counts stream) (says 0 (slice_index d.played stream ∷ [])) (says 1 [])
