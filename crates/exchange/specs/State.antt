-- The state: a core on which every decision is made, three tables as the received records, of each stream its parameters and where it is in its lifecycle, and what is pending.
-- Assumes nothing.
use Rattle.std.specs.Prelude.{ℕ, Bool, List, [], ◌∷◌, replicate, slice_index, slice_index_or, Result}
use Rattle.codes.specs.Says.{Says, says, guard}
use Rattle.codes.specs.Answers.{says_result}
use Rattle.records.specs.Records.{jack_info_of, pcm_info_of}
use Rattle.tables.specs.Tables.{tables_bytes, jacks_in, pcms_in, maps_in}
use Rattle.pending.specs.Table.{new_pending}
use Rattle.sound_core.specs.State.{unset, new_core}
use Rattle.sound_core.specs.Consistent.{consistent_of}
use Rattle.exchange.specs.Types.{JackInfo, PcmInfo, ChannelMap, Core, Params, Sound, Refusal}

-- the state from the three configured counts, with the guard or without, before any call: "every stream record gains its state, starting at 'set parameters'"
abbrev pub new_sound : Bool → ℕ → ℕ → ℕ → Sound
new_sound guard jacks streams maps =
    record { core = new_core guard jacks streams maps; tables = replicate tables_bytes 0; params = replicate 127 unset; lives = replicate 127 0; pending = new_pending }

-- the three tables, decoded
abbrev pub jacks_of : Sound → List JackInfo
jacks_of s = jacks_in s.tables

abbrev pub pcms_of : Sound → List PcmInfo
pcms_of s = pcms_in s.tables

abbrev pub maps_of : Sound → List ChannelMap
maps_of s = maps_in s.tables

-- the only looks into a table
abbrev pub jack_of : Sound → ℕ → JackInfo
jack_of s i = slice_index_or (jacks_of s) i (jack_info_of [])

abbrev pub pcm_of : Sound → ℕ → PcmInfo
pcm_of s i = slice_index_or (pcms_of s) i (pcm_info_of [])

abbrev pub params_of : Sound → ℕ → Params
params_of s i = slice_index_or s.params i unset

abbrev pub life_of : Sound → ℕ → ℕ
life_of s i = slice_index s.lives i

-- the same state on another core
abbrev pub with_core : Core → Sound → Sound
with_core c s = record { core = c; tables = s.tables; params = s.params; lives = s.lives; pending = s.pending }

-- ---- a configured count: no set-up, never Busy; a state that fails the test tells none

abbrev pub says_configured : Result ℕ Refusal → Says
says_configured = says_result (λ (n : ℕ). n ∷ [])

abbrev pub configured_of : Core → ℕ → Says
configured_of c n = guard (consistent_of c) (says 1 [])
    (says 0 (n ∷ []))
