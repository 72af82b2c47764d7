-- What the private functions promise, where the public definitions have no name for it.
-- Assumes nothing.
use Rattle.std.specs.Prelude.{◌≡◌, ℕ, ◌+◌, ◌-◌, ◌*◌, List, ◌++◌, length}
use Rattle.std.proofs.lemmas.List.Edits.{sets}
use Rattle.layout.specs.Bytes.{le, bytes_at, zeros}
use Rattle.layout.specs.Layout.{read}
use Rattle.codes.specs.Says.{pick}
use Rattle.records.specs.Records.{query, query_of}
use Rattle.model_store.specs.Types.{Counts}
use Rattle.model.specs.Control.{Outcome, laid, query_fits}
use Rattle.model_store.specs.Store.{jacks_place, pcms_place, maps_place, params_place, device_size, counts_bytes, device_bytes}

-- the room of each table, and of all that follows them
abbrev pub jacks_room : ℕ
jacks_room = pcms_place - jacks_place

abbrev pub pcms_room : ℕ
pcms_room = maps_place - pcms_place

abbrev pub maps_room : ℕ
maps_room = params_place - maps_place

abbrev pub rest_room : ℕ
rest_room = device_size - params_place

-- rows, then zeros up to their room
abbrev pub padded : ℕ → List ℕ → List ℕ
padded room rows = rows ++ zeros (room - length rows)

-- the bytes of a new device: its counts, its tables as they came, and zeros
abbrev pub new_bytes : Counts → List ℕ → List ℕ → List ℕ → List ℕ
new_bytes n jacks pcms maps = counts_bytes n ++ (padded jacks_room jacks ++ (padded pcms_room pcms ++ (padded maps_room maps ++ zeros rest_room)))

-- an ok header and a copy of the bytes of the range that a query asks for
abbrev pub range_bytes : List ℕ → ℕ → ℕ → ℕ → List ℕ → List ℕ
range_bytes request row n place s =
    let q = query_of (read query request) in
    pick (query_fits request row n) (le 4 0x8000 ++ bytes_at (place + q.start * row) (q.count * row) s) (le 4 0x8001)

-- what a function that gives an outcome tells, and leaves in the store and in the page
pub record Gave (o : Outcome) (s page : List ℕ) (n : ℕ) (after shown : List ℕ) : Type 0 where
  pub told : n ≡ length o.bytes
  pub device : after ≡ sets s 0 (device_bytes o.device)
  pub written : shown ≡ laid o.bytes page
