-- "channel map .. positions 18": position i is byte i of them; any other i is a bad number, 1.
-- Assumes nothing.
use Rattle.std.specs.Prelude.{List, [], ◌∷◌, ℕ, get_or, Result}
use Rattle.layout.specs.Layout.{write}
use Rattle.codes.specs.Says.{Says}
use Rattle.codes.specs.Answers.{says_result}
use Rattle.codes.specs.declared.answers.Refusal.{Refusal}
use Rattle.codes.specs.Codes.{number_says}
use Rattle.records.specs.declared.info.ChannelMap.{ChannelMap}

-- the 18 bytes, as they stand in the record
abbrev pub position_bytes : ChannelMap → List ℕ
position_bytes m = write (8 ∷ 8 ∷ 2 ∷ []) (m.positions ∷ m.positions8 ∷ m.positions16 ∷ [])

abbrev pub position_says : ChannelMap → ℕ → Says
position_says m i = number_says 18 i (get_or (position_bytes m) i 0)

abbrev pub says_position : Result ℕ Refusal → Says
says_position = says_result (λ p. p ∷ [])
