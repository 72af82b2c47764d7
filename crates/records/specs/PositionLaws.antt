-- Byte i of the positions, in the number that holds it.
-- Assumes nothing.
use Rattle.std.specs.Prelude.{◌≡◌, refl, Bool, List, [], ◌∷◌, ◌++◌, ℕ, ◌+◌, ◌-◌, ◌<◌, ◌≤◌, ◌/◌, ◌%◌, ◌^◌, eqb, get_or}
use Rattle.std.proofs.Common.{sym, ap, ◌∙◌, arith, get_or-append-add, eqb-true, lt-ltb}
use Rattle.std.proofs.Math.ListN.{get_or-append, get_or-eq_default}
use Rattle.layout.specs.Bytes.{le, Bytes}
use Rattle.layout.specs.Layout.{read}
use Rattle.layout.specs.BytesLaws.{length-le, get_d_le, get_d-bytes_at}
use Rattle.layout.specs.LayoutLaws.{write_read}
use Rattle.codes.specs.Says.{says}
use Rattle.codes.specs.SaysLaws.{picks}
use Rattle.codes.specs.TableLaws.{rule}
use Rattle.records.specs.Records.{channel_map, channel_map_of}
use Rattle.records.specs.Positions.{position_bytes, position_says}
use Rattle.records.specs.declared.info.ChannelMap.{ChannelMap}

-- ---- the code's table

abbrev pub places : List ℕ
places = 1 ∷ 256 ∷ 65536 ∷ 16777216 ∷ 4294967296 ∷ 1099511627776 ∷ 281474976710656 ∷ 72057594037927936 ∷ []

is_power : ℕ → ℕ → Bool
is_power i p = eqb p (256 ^ i)

pub place-power : (i : ℕ) → i < 8 → get_or places i 0 ≡ 256 ^ i
unfolding is_power
place-power i h = eqb-true (get_or places i 0) (256 ^ i) (rule is_power places refl i h)

pub byte_at : (v i : ℕ) → i < 8 → v / get_or places i 0 % 256 ≡ get_or (le 8 v) i 0
byte_at v i h = ap (λ (p : ℕ). v / p % 256) (place-power i h) ∙ sym (get_d_le 8 v i h)

pub byte-none : (v i : ℕ) → 8 ≤ i → 0 ≡ get_or (le 8 v) i 0
byte-none v i h = sym (get_or-eq_default (le 8 v) 0 (rw length-le h))

-- ---- the three numbers

here : (w v i : ℕ) (r : List ℕ) → i < w → w ≤ 8 → get_or (le 8 v) i 0 ≡ get_or (le w v ++ r) i 0
here w v i r h k =
    get_d_le 8 v i (omega arith)
    ∙ sym (get_d_le w v i h)
    ∙ sym (get_or-append (le w v) r 0 i (rw length-le h))

further : (v i : ℕ) (r : List ℕ) → 8 ≤ i → get_or r (i - 8) 0 ≡ get_or (le 8 v ++ r) i 0
further v i r h =
    let e : 8 + (i - 8) ≡ i = omega arith in
    sym (get_or-append-add (le 8 v) r (i - 8) 0)
    ∙ ap (λ (n : ℕ). get_or (le 8 v ++ r) (n + (i - 8)) 0) (length-le 8 v)
    ∙ ap (λ (n : ℕ). get_or (le 8 v ++ r) n 0) e

found : (m : ChannelMap) (i p : ℕ) → i < 18 → p ≡ get_or (position_bytes m) i 0 → says 0 (p ∷ []) ≡ position_says m i
found m i p h e = ap (λ (n : ℕ). says 0 (n ∷ [])) e ∙ sym (picks _ _ _ (lt-ltb i 18 h))

module _ (m : ChannelMap) (i p : ℕ) where
  pub in-first : i < 8 → p ≡ get_or (le 8 m.positions) i 0 → says 0 (p ∷ []) ≡ position_says m i
  in-first h e = found m i p (omega arith) (e ∙ here 8 m.positions i _ h (omega arith))

  pub in-second : 8 ≤ i → i < 16 → p ≡ get_or (le 8 m.positions8) (i - 8) 0 → says 0 (p ∷ []) ≡ position_says m i
  in-second k h e = found m i p (omega arith) (e ∙ here 8 m.positions8 (i - 8) _ (omega arith) (omega arith) ∙ further m.positions i _ k)

  pub in-third : 16 ≤ i → i < 18 → p ≡ get_or (le 8 m.positions16) (i - 16) 0 → says 0 (p ∷ []) ≡ position_says m i
  in-third k h e =
      let s : i - 16 ≡ i - 8 - 8 = omega arith in
      found m i p h
      (e
      ∙ here 2 m.positions16 (i - 16) [] (omega arith) (omega arith)
      ∙ ap (λ (n : ℕ). get_or (le 2 m.positions16 ++ []) n 0) s
      ∙ further m.positions8 (i - 8) _ (omega arith)
      ∙ further m.positions i _ (omega arith))

-- position i of a map that was read is byte 6 + i of the record
pub position-byte : (s : List ℕ) (i : ℕ) → Bytes s → i < 18 → get_or (position_bytes (channel_map_of (read channel_map s))) i 0 ≡ get_or s (6 + i) 0
position-byte s i b h = ap (λ (l : List ℕ). get_or l i 0) (write_read 6 (8 ∷ 8 ∷ 2 ∷ []) s b) ∙ get_d-bytes_at 6 18 i s h
