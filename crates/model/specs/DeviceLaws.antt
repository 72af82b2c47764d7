-- Tests joined by `&&`, and what the tests of the counts come to.
-- Assumes nothing.
use Rattle.std.specs.Prelude.{◌≡◌, ℕ, ◌<◌, ◌≤◌, Bool, true, false, ◌&&◌, nat_le, nat_lt, refl}
use Rattle.std.proofs.Common.{ap, arith, leb-true, ltb-true}
use Rattle.model.specs.Device.{most_jacks, most_streams, most_maps, within_of, stream_ok}
use Rattle.model.specs.Types.{Counts}

pub and_both : (a b : Bool) → (a && b) ≡ true → (a ≡ true) × (b ≡ true)
and_both true b e = (refl, e)
and_both false b e = let z : ◌≡◌ {A = ℕ} 0 1 = cc in absurd (omega arith)

pub and-passes : (a b : Bool) → a ≡ true → (a && b) ≡ b
and-passes a b e = ap (λ (t : Bool). t && b) e

pub and-stops : (a b : Bool) → a ≡ false → (a && b) ≡ false
and-stops a b e = ap (λ (t : Bool). t && b) e

module _ (n : Counts) (h : within_of n ≡ true) where
  abbrev others : (nat_le n.streams most_streams ≡ true) × (nat_le n.maps most_maps ≡ true)
  others = and_both (nat_le n.streams most_streams) (nat_le n.maps most_maps) (and_both (nat_le n.jacks most_jacks) _ h).1

  pub few-jacks : n.jacks ≤ most_jacks
  few-jacks = leb-true n.jacks most_jacks (and_both (nat_le n.jacks most_jacks) _ h).0

  pub few-streams : n.streams ≤ most_streams
  few-streams = leb-true n.streams most_streams others.0

  pub few-maps : n.maps ≤ most_maps
  few-maps = leb-true n.maps most_maps others.1

pub stream-below : (n : Counts) (stream : ℕ) → stream_ok n stream ≡ true → stream < most_streams
stream-below n stream e =
    let t = and_both (within_of n) (nat_lt stream n.streams) e in
    let h = few-streams n t.0 in
    let k = ltb-true stream n.streams t.1 in
    omega arith
