-- A submission on a store goes by what its checks come to: a refusal, set-up first, or a place.
-- Assumes nothing.
use Rattle.std.specs.Prelude.{◌≡◌, ℕ, ◌≤◌, Bool, true, false, ◌&&◌, List, length, nat_le, Result, Ok, Err}
use Rattle.std.proofs.Math.Path.{refl}
use Rattle.std.proofs.Common.{sym, ap, ◌∙◌, arith, leb-true}
use Rattle.std.proofs.lemmas.List.Edits.{sets}
use Rattle.layout.specs.Bytes.{le, Bytes}
use Rattle.layout.specs.Lent.{message_size}
use Rattle.codes.specs.Says.{guard}
use Rattle.codes.specs.SaysLaws.{passes, stops}
use Rattle.codes.specs.Answers.{refusal_word}
use Rattle.pending.specs.Table.{waits, lowest_in}
use Rattle.pending.specs.Places.{placed_in, spot_by}
use Rattle.turns.specs.Consistent as ring
use Rattle.turns.specs.ConsistentLaws.{both}
use Rattle.sound_core.specs.Consistent.{consistent_of, stream_ok}
use Rattle.sound_core.specs.Gate.{gate_of}
use Rattle.sound_core.specs.declared.gate.Gate.TheVariants as gate
use Rattle.exchange.specs.State.{params_of, life_of}
use Rattle.exchange.specs.Xfer.{gate_as}
use Rattle.exchange.specs.StepLaws.{xfer-ap, set-up-long}
use Rattle.exchange.specs.Submit.{places_of, refused_nb, set_up_nb, submit_of}
use Rattle.exchange.specs.SubmitLaws.{submit_by, submitted-by}
use Rattle.state_store.specs.Types.{Refusal, Track, Xfer, Params, Core, Pending, Gate, SetUp, NbStep}
use Rattle.state_store.specs.Store.{whole, head_at, core_of, sound_of}
use Rattle.state_store.specs.Calls.{lengths, Opened, opened}
use Rattle.state_store.specs.Tokens.{Submitted, submitted, nb_left, nb_in}
use Rattle.state_store.specs.Steps.{setting_up_by, Held, held_by}
use Rattle.state_store.specs.StoreLaws.{core_at}
use Rattle.state_store.specs.TokenLaws.{unchanged, token-after}

-- a gate is open only where state and ring passed the test
open-passed : (a b : Bool) (rest : Result Gate Refusal) (x y : Refusal) (period : ℕ) → Ok (gate.Open period) ≡ guard a (Err y)
    (guard b (Err x)
    rest) → b ≡ true
unfolding guard
open-passed true true rest x y period e = refl
open-passed true false rest x y period e = let z : ◌≡◌ {A = ℕ} 0 1 = cc in absurd (omega arith)
open-passed false b rest x y period e = let z : ◌≡◌ {A = ℕ} 0 1 = cc in absurd (omega arith)

-- what finding a place comes to, by what was found
pub spot_is : (many : ℕ) (s : List ℕ) (n len period : ℕ) {p : Pending} {k : ℕ} {g h : Result ℕ Refusal} → p ≡ (sound_of s).pending → k ≡ lowest_in p many → g ≡ spot_by many k n len period Err Ok → g ≡ h
    → h ≡ spot_by many (lowest_in (sound_of s).pending many) n len period Err Ok
spot_is many s n len period p k g h = sym h ∙ g ∙ ap (λ (j : ℕ). spot_by many j n len period Err Ok) (k ∙ ap (λ (q : Pending). lowest_in q many) p)

module _ (s : List ℕ) (t : Track) (stream : ℕ) (payload places m r : List ℕ) where
  abbrev n : ℕ
  n = length payload

  abbrev len : ℕ
  len = length places

  abbrev many : ℕ
  many = places_of t.descriptors

  abbrev long : Bool
  long = nat_le message_size (length m)

  pub nb-unread : lengths s r ≡ false → submitted 10 s places m r ≡ nb_in s t stream payload places m r
  unfolding nb_in
  nb-unread e = stops _ _ _ e refl

  abbrev pub nb_gate : Result Gate Refusal
  nb_gate = gate_as false long true (sound_of s) t stream

  pub nb-gated : {c : Core} {p : Params} {life : ℕ} {g : Result Gate Refusal} → c ≡ core_of (head_at s) → p ≡ params_of (sound_of s) stream → life ≡ life_of (sound_of s) stream → g ≡ gate_of false long true c p life 0 t stream → g ≡ nb_gate
  nb-gated c p l g = g ∙ (λ i. gate_of false long true ((c ∙ sym (core_at s)) i) (p i) (l i) 0 t stream)

  pub nb-long : (Ok SetUp) ≡ nb_gate → message_size ≤ length m
  nb-long e = leb-true message_size (length m) (set-up-long false long true (sound_of s) t stream e)

  abbrev nb_by : Result Gate Refusal → NbStep
  nb_by (Err x) = refused_nb (sound_of s) x
  nb_by (Ok SetUp) = set_up_nb (sound_of s) stream
  nb_by (Ok (gate.Open period)) = submit_of many (sound_of s) n len period

  module _ (l : lengths s r ≡ true) where
    nb-is : (g : Result Gate Refusal) → g ≡ nb_gate → nb_left many s stream payload places m r (nb_by g) ≡ nb_in s t stream payload places m r
    unfolding nb_in
    nb-is g e = passes _ _ _ l (ap (nb_left many s stream payload places m r) (ap nb_by e ∙ xfer-ap nb_by long true (sound_of s) t stream Err (Ok SetUp) (λ (n : ℕ). Ok (gate.Open n))))

    pub nb-set-up : {w : Bool} {c : Core} {q : Result ℕ ℕ} {l₁ m₁ : List ℕ} → w ≡ whole s → c ≡ core_of (head_at s) → (Ok SetUp) ≡ nb_gate → opened q l₁ m₁ ≡ setting_up_by w c s (Xfer stream) m
        → submitted 272 l₁ places m₁ r ≡ nb_in s t stream payload places m r
    nb-set-up w c e p = ap (λ (o : Opened). submitted 272 o.state places o.message r) (p ∙ (λ i. setting_up_by (w i) ((c ∙ sym (core_at s)) i) s (Xfer stream) m)) ∙ nb-is (Ok SetUp) e

    module _ (b : Bytes s) where
      pub nb-shut : (x : Refusal) → Err x ≡ nb_gate → submitted (refusal_word x) s places m r ≡ nb_in s t stream payload places m r
      nb-shut x e = ap (λ (k : List ℕ). submitted (refusal_word x) k places m r) (sym (unchanged s b)) ∙ nb-is (Err x) e

      abbrev with_message : Held → Submitted
      with_message h = submitted h.answer h.state h.places m h.result

      spot-end : consistent_of (sound_of s).core ≡ true → (g : Result ℕ Refusal) → with_message (held_by many s stream payload places r g) ≡ nb_left many s stream payload places m r (submit_by many (sound_of s) n len g)
      spot-end h (Err x) = ap (λ (k : List ℕ). submitted (refusal_word x) k places m r) (sym (unchanged s b))
      spot-end h (Ok k) = ap (λ (z : List ℕ). submitted 0 z (placed_in places many k stream payload) m (sets r 0 (le 8 k))) (token-after s b h k waits)

      nb-passed : (period : ℕ) → Ok (gate.Open period) ≡ nb_gate → consistent_of (sound_of s).core ≡ true
      nb-passed period e =
          (both (consistent_of (sound_of s).core) (ring.consistent_of t && stream_ok (sound_of s).core (params_of (sound_of s) stream) stream) (open-passed _ _ _ _ _ period e)).0

      pub nb-open : (period : ℕ) {h : Held} {k : ℕ} → Ok (gate.Open period) ≡ nb_gate → k ≡ many
          → h ≡ held_by k s stream payload places r (spot_by k (lowest_in (sound_of s).pending k) n len period Err Ok) → with_message h ≡ nb_in s t stream payload places m r
      nb-open period e z p =
          let g = spot_by many (lowest_in (sound_of s).pending many) n len period Err Ok in
          ap with_message (p ∙ ap (λ (k : ℕ). held_by k s stream payload places r (spot_by k (lowest_in (sound_of s).pending k) n len period Err Ok)) z)
          ∙ spot-end (nb-passed period e) g
          ∙ ap (nb_left many s stream payload places m r) (submitted-by many (sound_of s) n len period (lowest_in (sound_of s).pending many) g refl refl)
          ∙ nb-is (Ok (gate.Open period)) e
