-- The effect of a plan on the store's bytes: a table's records are copied from the page, a stream's parameters are stored, or a stream is moved.
-- Assumes nothing.
use Rattle.std.specs.Prelude.{ℕ, ◌+◌, ◌*◌, Bool, List, nat_lt}
use Rattle.std.proofs.lemmas.List.Edits.{sets}
use Rattle.records.specs.Records.{jack_info, pcm_info, channel_map}
use Rattle.layout.specs.Layout.{size}
use Rattle.codes.specs.Says.{pick}
use Rattle.tables.specs.Tables.{jacks_place, pcms_place, maps_place, copied_in}
use Rattle.state_store.specs.Types.{Effect, Nothing, FillJacks, FillStreams, FillMaps, Store, Move}
use Rattle.state_store.specs.Places.{head_size, params_place, lives_place}
use Rattle.state_store.specs.Store.{params_bytes, life_bytes}

-- an ok command is its stream's state, under the guard
abbrev pub lived_in : Bool → ℕ → ℕ → List ℕ → List ℕ
lived_in guard stream life s = pick guard (pick (nat_lt stream 127) (sets s (lives_place + stream) (life_bytes life)) s) s

abbrev pub effect_in : Bool → Effect → List ℕ → List ℕ → List ℕ
effect_in guard Nothing page s = s
effect_in guard (FillJacks n) page s = copied_in (head_size + jacks_place) (size jack_info) n page s
effect_in guard (FillStreams n) page s = copied_in (head_size + pcms_place) (size pcm_info) n page s
effect_in guard (FillMaps n) page s = copied_in (head_size + maps_place) (size channel_map) n page s
effect_in guard (Store stream to) page s = lived_in guard stream 0 (pick (nat_lt stream 127) (sets s (params_place + stream * 16) (params_bytes to)) s)
effect_in guard (Move stream life) page s = lived_in guard stream life s
