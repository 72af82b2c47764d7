-- A loop over a script, from where it stands: what the code of `transfer` keeps.
-- Assumes nothing.
use Prim.Native.Nat.{ℕ, zero, suc, ◌+◌, ◌-◌, ◌*◌, ◌/◌, ◌≤◌, ◌<◌}
use native.Mathlib.Omega.{arith}
use Rattle.std.proofs.Common.{add-one, ◌∙◌}
use Rattle.std.specs.Prelude.{◌≡◌, refl, length, false, None}
use Rattle.std.proofs.Math.Path.{sym, ap}
use mathlib.Core.List.{List, [], ◌∷◌}
use Rattle.codes.specs.SaysLaws.{skips}
use Rattle.layout.specs.Rows.{rows_at}
use Rattle.turns.specs.Rules.{choose_of}
use Rattle.turns.specs.Calls.{turn_call, turned_of}
use Rattle.turns.specs.Ring.{goes_on}
use Rattle.turns.specs.Log.{Line, Ran, Told, waiting_by, first_of, rest_of, onward, loop_of, loop, called, turn_by_turn}
use Rattle.turns.specs.Script.{reading_at, script_of, transferred_of, transfer_by}
use Rattle.turns.specs.Types.{Ring, Said, Going, Turned, Reading, Transferred}
use Rattle.turns.specs.Private.{script_from}

-- ---- the script

script-more : (n k : ℕ) (bytes : List ℕ) → length bytes / 12 - n ≡ suc k → script_from n bytes ≡ reading_at (n * 12) bytes ∷ script_from (suc n) bytes
unfolding script_from rows_at
script-more n k bytes e =
    let less : k ≡ length bytes / 12 - suc n = omega arith in
    let next : n * 12 + 12 ≡ suc n * 12 = omega arith in
    ap (λ (i : ℕ). rows_at reading_at 12 (n * 12) i bytes) e
    ∙ ap (λ (i : ℕ). reading_at (n * 12) bytes ∷ rows_at reading_at 12 i k bytes) next
    ∙ ap (λ (i : ℕ). reading_at (n * 12) bytes ∷ rows_at reading_at 12 (suc n * 12) i bytes) less

script-none : (n : ℕ) (bytes : List ℕ) → length bytes / 12 ≤ n → script_from n bytes ≡ []
unfolding script_from rows_at
script-none n bytes h = let e : length bytes / 12 - n ≡ 0 = omega arith in ap (λ (i : ℕ). rows_at reading_at 12 (n * 12) i bytes) e

pub first_more : (n : ℕ) (bytes : List ℕ) → n < length bytes / 12 → reading_at (n * 12) bytes ≡ first_of (script_from n bytes)
first_more n bytes h = let e : length bytes / 12 - n ≡ suc (length bytes / 12 - suc n) = omega arith in rw (script-more n (length bytes / 12 - suc n) bytes e)

pub first-none : (n : ℕ) (bytes : List ℕ) → length bytes / 12 ≤ n → None ≡ first_of (script_from n bytes)
first-none n bytes h = rw (script-none n bytes h)

rest-by : (n k : ℕ) (bytes : List ℕ) → length bytes / 12 - n ≡ k → rest_of (script_from n bytes) ≡ script_from (suc n) bytes
rest-by n zero bytes e = rw (script-none n bytes (omega arith), script-none (suc n) bytes (omega arith))
rest-by n (suc k) bytes e = rw (script-more n k bytes e)

rest : (n : ℕ) (bytes : List ℕ) → rest_of (script_from n bytes) ≡ script_from (n + 1) bytes
rest n bytes = rest-by n (length bytes / 12 - n) bytes refl ∙ ap (λ (i : ℕ). script_from i bytes) (sym (add-one n))

whole : (bytes : List ℕ) → script_of bytes ≡ script_from 0 bytes
unfolding script_from
whole bytes = let e : length bytes / 12 ≡ length bytes / 12 - 0 = omega arith in ap (λ (i : ℕ). rows_at reading_at 12 0 i bytes) e

-- ---- the loop

-- what a loop came to, after n turns that went before it
abbrev pub transferred_after : ℕ → Ran Ring → Transferred
transferred_after n h = record { ring = h.at; said = h.said; turns = n + length h.log }

started : (h : Ran Ring) → transferred_of h ≡ transferred_after 0 h
started h = let e : length h.log ≡ 0 + length h.log = omega arith in ap (λ (k : ℕ). record { ring = h.at; said = h.said; turns = k }) e

went : (n : ℕ) (said : Said) (line : Line) (r : Ring) (h : Ran Ring) → said ≡ Going → transferred_after n (onward said line r h) ≡ transferred_after (n + 1) h
went n said line r h e =
    let one : n + suc (length h.log) ≡ n + 1 + length h.log = omega arith in
    ap (λ (s : Said). transferred_after n (onward s line r h)) e ∙ ap (λ (k : ℕ). record { ring = h.at; said = h.said; turns = k }) one

stopped : (n : ℕ) (said : Said) (line : Line) (r : Ring) (h : Ran Ring) → goes_on said ≡ false → transferred_after n (onward said line r h) ≡ record { ring = r; said = said; turns = n + 1 }
stopped n said line r h e = ap (transferred_after n) (skips (goes_on said) _ _ e)

module _ (turn : Ring → Reading → Told Ring) (budget : ℕ) (r₀ : Ring) (bytes : List ℕ) where
  -- where a loop stands after n turns
  abbrev pub Stands : Ring → ℕ → Type 0
  Stands r n = transferred_of (loop turn budget r₀ (script_of bytes)) ≡ transferred_after n (loop turn (budget - n) r (script_from n bytes))

  pub stands-first : Stands r₀ 0
  stands-first =
      let e : budget ≡ budget - 0 = omega arith in
      ap (λ (k : ℕ). transferred_of (loop turn k r₀ (script_of bytes))) e
      ∙ ap (λ (l : List Reading). transferred_of (loop turn (budget - 0) r₀ l)) (whole bytes)
      ∙ started (loop turn (budget - 0) r₀ (script_from 0 bytes))

  -- one turn of it, t
  module _ (r : Ring) (n : ℕ) (t : Told Ring) (ran : t ≡ turn r (first_of (script_from n bytes))) (some : n < budget) (s : Stands r n) where
    rest-ran : Ran Ring
    rest-ran = loop turn (budget - (n + 1)) t.left (script_from (n + 1) bytes)

    step : transferred_of (loop turn budget r₀ (script_of bytes)) ≡ transferred_after n (onward t.line.said t.line t.left rest-ran)
    unfolding loop_of rest-ran
    step =
        let one : budget - n ≡ suc (budget - (n + 1)) = omega arith in
        s
        ∙ ap (λ (k : ℕ). transferred_after n (loop turn k r (script_from n bytes))) one
        ∙ ap (λ (u : Told Ring). transferred_after n (onward u.line.said u.line u.left (loop turn (budget - (n + 1)) u.left (rest_of (script_from n bytes))))) (sym ran)
        ∙ ap (λ (l : List Reading). transferred_after n (onward t.line.said t.line t.left (loop turn (budget - (n + 1)) t.left l))) (rest n bytes)

    pub stands-next : t.line.said ≡ Going → Stands t.left (n + 1)
    unfolding rest-ran
    stands-next e = step ∙ went n t.line.said t.line t.left rest-ran e

    pub stands-ended : goes_on t.line.said ≡ false → record { ring = t.left; said = t.line.said; turns = n + 1 } ≡ transferred_of (loop turn budget r₀ (script_of bytes))
    stands-ended e = sym (step ∙ stopped n t.line.said t.line t.left rest-ran e)

  pub stands-out : (r : Ring) (n : ℕ) → budget ≤ n → Stands r n → record { ring = r; said = Going; turns = n } ≡ transferred_of (loop turn budget r₀ (script_of bytes))
  unfolding loop_of
  stands-out r n h s =
      let none : budget - n ≡ 0 = omega arith in
      let all : n + 0 ≡ n = omega arith in
      sym (s ∙ ap (λ (k : ℕ). transferred_after n (loop turn k r (script_from n bytes))) none ∙ ap (λ (k : ℕ). record { ring = r; said = Going; turns = k }) all)

-- ---- the host's loop, with what the code's turn returned

module _ (len budget : ℕ) (r₀ : Ring) (bytes : List ℕ) where
  abbrev pub Hosts : Ring → ℕ → Type 0
  Hosts r n = Stands (called len) budget r₀ bytes r n

  told : Ring → Reading → Turned → Told Ring
  told r reading u =
      record {
        left = u.ring;
        line = record { sent = u.sent; waiting = waiting_by (choose_of r.track.descriptors r.track) r.track; reading = reading; heard = u.heard; said = u.said };
      }

  module _ (r : Ring) (n : ℕ) (reading : Reading) (u : Turned) (read : reading ≡ first_of (script_from n bytes)) (ran : u ≡ turned_of r (turn_call r.track len reading)) (some : n < budget) (h : Hosts r n) where
    as_called : told r reading u ≡ called len r (first_of (script_from n bytes))
    unfolding told
    as_called = ap (told r reading) ran ∙ ap (called len r) read

    pub hosts-next : u.said ≡ Going → Hosts u.ring (n + 1)
    unfolding told
    hosts-next e = stands-next (called len) budget r₀ bytes r n (told r reading u) as_called some h e

    pub hosts-ended : goes_on u.said ≡ false → record { ring = u.ring; said = u.said; turns = n + 1 } ≡ transferred_of (turn_by_turn len budget r₀ (script_of bytes))
    unfolding told
    hosts-ended e = stands-ended (called len) budget r₀ bytes r n (told r reading u) as_called some h e

-- a start that did not go on, and one that did
pub not-started : (len budget : ℕ) (t u : Turned) (script : List Reading) → t ≡ u → goes_on t.said ≡ false → record { ring = t.ring; said = t.said; turns = 0 } ≡ transfer_by u.said len budget u.ring script
not-started len budget t u script p e = sym (skips (goes_on t.said) _ _ e) ∙ ap (λ (x : Turned). transfer_by x.said len budget x.ring script) p

pub is-started : (len budget : ℕ) (t u : Turned) (script : List Reading) → t ≡ u → t.said ≡ Going → transferred_of (turn_by_turn len budget t.ring script) ≡ transfer_by u.said len budget u.ring script
is-started len budget t u script p e = ap (λ (s : Said). transfer_by s len budget t.ring script) (sym e) ∙ ap (λ (x : Turned). transfer_by x.said len budget x.ring script) p
