-- "15 Full, exactly if 16 are pending", or "Full at 32 pending" where descriptors are indirect: of a submission that passed every test before it.
-- Assumes nothing.
use Rattle.std.specs.Prelude.{◌≡◌, ℕ, ◌+◌, ◌<◌, ◌≤◌, true, false, not, ◌&&◌, ltb, ◌==◌, nat_lt, refl}
use Rattle.std.proofs.Common.{subst, arith}
use borrow.Author.Tests.{eq-eqb, eqb-true, le-leb, leb-true, ltb-false}
use Rattle.layout.specs.Lent.{message_size}
use Rattle.codes.specs.SaysLaws.{guarded-by, passes, stops}
use Rattle.codes.specs.declared.answers.Refusal.TheVariants.{Full}
use Rattle.codes.specs.Life.{takes_of}
use Rattle.pending.specs.Table.{pending_at, lowest_in}
use Rattle.pending.specs.Places.{size_of}
use Rattle.pending.specs.TableLaws.{few, bound-is}
use Rattle.pending.specs.Full.{lowest-below, full-if}
use Rattle.turns.specs.Ring.{direct, indirect}
use Rattle.turns.specs.Calls.{idle_of}
use Rattle.turns.specs.Consistent as ring
use Rattle.sound_core.specs.Consistent.{consistent_of, stream_ok, held_to}
use Rattle.sound_core.specs.Plan.{is_idle}
use Rattle.exchange.specs.State.{params_of, life_of}
use Rattle.exchange.specs.Submit.{places_of, refused_nb, nb_of, says_nb}
use Rattle.exchange.specs.SubmitLaws.{few-places}
use Rattle.exchange.specs.Types.{Ring, Pending, Sound, NbStep}

-- every test before it is passed: 10, 1, 8, set-up, 1, 12, 2, 1 and 10
pub record Passed (s : Sound) (r : Ring) (stream n len m : ℕ) : Type 0 where
  pub long : message_size ≤ m
  pub sound : (consistent_of s.core && (ring.consistent_of r.track && stream_ok s.core (params_of s stream) stream)) ≡ true
  pub free : (is_idle s.core.stage && (idle_of r.track && true)) ≡ true
  pub ready : s.core.ready ≡ true
  pub range : ltb stream s.core.counts.streams ≡ true
  pub live : held_to s.core.guard (takes_of (life_of s stream)) ≡ true
  pub set : not ((params_of s stream).known == 0) ≡ true
  pub whole : n ≡ (params_of s stream).period
  pub room : (params_of s stream).period + 4 ≤ size_of len (places_of r.track.descriptors)

-- every one of so many places is taken
abbrev pub AllTaken : ℕ → Sound → Type 0
AllTaken places s = (k : ℕ) → k < places → pending_at s.pending k ≡ true

no_room : (p : Pending) (places : ℕ) → places ≤ 32 → ((k : ℕ) → k < places → pending_at p k ≡ true) → nat_lt (lowest_in p places) places ≡ false
no_room p places h all =
    let f = (few places).1 in
    subst (λ (n : ℕ). nat_lt (lowest_in p places) n ≡ false) (bound-is places h) (full-if p places (λ k w. all k (omega (arith, f, w))))

module _ (s : Sound) (r : Ring) (stream n len m : ℕ) where
  abbrev Then : NbStep → Type 0
  Then u = (says_nb u.reply).number ≡ 15 → Passed s r stream n len m × AllTaken (places_of r.track.descriptors) s

  pub full-then : Then (nb_of s r stream n len m)
  unfolding nb_of
  full-then =
      guarded-by Then _ _ _
      (λ a. guarded-by Then _ _ _
      (λ b. guarded-by Then _ _ _
      (λ c. guarded-by Then _ _ _
      (λ d. guarded-by Then _ _ _
      (λ e. guarded-by Then _ _ _
      (λ f. guarded-by Then _ _ _
      (λ g. guarded-by Then _ _ _
      (λ h. guarded-by Then _ _ _
      (λ i. guarded-by Then _ _ _
      (λ _ z. absurd (omega (arith, z)))
      (λ j _.
      let l : places_of r.track.descriptors ≤ lowest_in s.pending (places_of r.track.descriptors) = ltb-false _ _ j in
      (record { long = leb-true _ _ a; sound = b; free = c; ready = d; range = e; live = f; set = g; whole = eqb-true _ _ h; room = leb-true _ _ i }, λ k w. lowest-below s.pending (places_of r.track.descriptors) k (omega (arith, l, w)))))
      (λ _ z. absurd (omega (arith, z))))
      (λ _ z. absurd (omega (arith, z))))
      (λ _ z. absurd (omega (arith, z))))
      (λ _ z. absurd (omega (arith, z))))
      (λ _ z. absurd (omega (arith, z))))
      (λ _ z. absurd (omega (arith, z))))
      (λ _ z. absurd (omega (arith, z))))
      (λ _ z. absurd (omega (arith, z))))
      (λ _ z. absurd (omega (arith, z)))

  pub full-exactly : Passed s r stream n len m → AllTaken (places_of r.track.descriptors) s → refused_nb s Full ≡ nb_of s r stream n len m
  unfolding nb_of
  full-exactly p all =
      passes _ _ _ (le-leb _ _ p.long)
      (passes _ _ _ p.sound
      (passes _ _ _ p.free
      (passes _ _ _ p.ready
      (passes _ _ _ p.range
      (passes _ _ _ p.live
      (passes _ _ _ p.set
      (passes _ _ _ (eq-eqb _ _ p.whole)
      (passes _ _ _ (le-leb _ _ p.room)
      (stops _ _ _ (no_room s.pending (places_of r.track.descriptors) (few-places r.track.descriptors) all) refl)))))))))

-- 16 places, or 32
pub places-are : (places_of direct ≡ 16) × (places_of indirect ≡ 32)
unfolding places_of
places-are = (refl, refl)
