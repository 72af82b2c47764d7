-- Calls: a refusal changes nothing, and what is offered is what the turn submits.
-- Assumes nothing.
use Rattle.std.specs.Prelude.{ℕ, ◌≡◌, refl, Bool, true, false, ◌||◌, not, eqb, Result, Ok, Err, Some, None}
use Rattle.std.proofs.Common.{arith, ap, sym, ◌∙◌, subst, eq-eqb}
use Rattle.std.proofs.lemmas.Bool.{false≢true}
use Rattle.codes.specs.Says.{guard}
use Rattle.codes.specs.SaysLaws.{guarded-by, passes}
use Rattle.codes.specs.declared.answers.Refusal.{Refusal}
use Rattle.turns.specs.Ring.{is_refused}
use Rattle.turns.specs.Rules.{choose_of, submit, sent_of, comes_to, played_of, hear, act, turn_of, counted_of}
use Rattle.turns.specs.CaseLaws.{Plain, plain, over_plain, hear-cases, counted-cases}
use Rattle.turns.specs.KeepLaws.{turn-plain}
use Rattle.turns.specs.Calls.{refused_of, traced_call, turn_call, drained, drain_call, start_call, start_traced, ring_after, offer_by, offer_as, offer_call}
use Rattle.turns.specs.Capture.{caught_of, lends_all, caught_turn, capture_call, capture_offer}
use Rattle.turns.specs.Types.{Catch}
use Rattle.turns.specs.Types.{Track, Ring, Sent, Going, Refused, Step, Reading, Choice, Submit, Finish, Wait, Outcome}

-- ---- a refusal changes nothing

-- a step that refuses leaves the track, and has sent and heard nothing
abbrev pub Untouched : Track → Step → Type 0
Untouched t s = (x : Refusal) → s.said ≡ Refused x → s ≡ refused_of x t

pub refuses : (t : Track) (r : Refusal) → Untouched t (refused_of r t)
refuses t r x e = let same : r ≡ x = cc in ap (λ (y : Refusal). refused_of y t) same

-- a counted turn is never a refusal
pub turn-answers : (least : ℕ) (t : Track) (o : Outcome) (reading : Reading) → Plain (counted_of (turn_of least t o reading)).said
turn-answers least t o reading = counted-cases (λ s. Plain s.said) (turn_of least t o reading) (turn-plain least t o reading) (λ _. tt) over_plain

drained-answers : (t : Track) (reading : Reading) → Plain (drained t reading).said
drained-answers t None = tt
drained-answers t (Some c) = guarded-by (λ (s : Step). Plain s.said) _ _ _ (λ _. tt) (λ _. tt)

module _ (t : Track) where
  abbrev P : Step → Type 0
  P s = Untouched t s

  pub traced-refused : (len room : ℕ) (reading : Reading) → Untouched t (traced_call t len room reading)
  unfolding traced_call
  traced-refused len room reading =
      guarded-by P _ _ _
      (λ _. guarded-by P _ _ _
      (λ _. guarded-by P _ _ _ (λ _. guarded-by P _ _ _ (λ _ x e. absurd (plain _ (turn-answers t.descriptors t _ reading) x e)) (λ _. refuses t _)) (λ _. refuses t _))
      (λ _. refuses t _))
      (λ _. refuses t _)

  pub turn-refused : (len : ℕ) (reading : Reading) → Untouched t (turn_call t len reading)
  turn-refused len reading = traced-refused len 0 reading

  pub drain-refused : (reading : Reading) → Untouched t (drain_call t reading)
  unfolding drain_call
  drain-refused reading = guarded-by P _ _ _ (λ _. guarded-by P _ _ _ (λ _. refuses t _) (λ _ x e. absurd (plain _ (drained-answers t reading) x e))) (λ _. refuses t _)

  pub start-refused : (stream total period budget : ℕ) → Untouched t (start_call t stream total period budget)
  unfolding start_call
  start-refused stream total period budget =
      guarded-by P _ _ _
      (λ _. guarded-by P _ _ _
      (λ _. guarded-by P _ _ _ (λ _. guarded-by P _ _ _ (λ _ x e. absurd (plain Going tt x e)) (λ _. refuses t _)) (λ _. refuses t _))
      (λ _. refuses t _))
      (λ _. refuses t _)

  pub traced-start-refused : (stream total period budget room : ℕ) → Untouched t (start_traced t stream total period budget room)
  unfolding start_traced
  traced-start-refused stream total period budget room =
      guarded-by P _ _ _
      (λ _. guarded-by P _ _ _
      (λ _. guarded-by P _ _ _
      (λ _. guarded-by P _ _ _ (λ _. guarded-by P _ _ _ (λ _. guarded-by P _ _ _ (λ _ x e. absurd (plain Going tt x e)) (λ _. refuses t _)) (λ _. refuses t _)) (λ _. refuses t _))
      (λ _. refuses t _))
      (λ _. refuses t _))
      (λ _. refuses t _)

-- the ring is then as it was, slots included
pub ring-untouched : (r : Ring) (s : Step) → Untouched r.track s → (x : Refusal) → s.said ≡ Refused x → ring_after r s ≡ r
ring-untouched r s h x e = ap (ring_after r) (h x e)

-- ---- what is offered

guarded-both : {A B : Type 0} (P : A → B → Type 0) (t : Bool) (a b : A) (c d : B) → P a c → P b d → P (guard t b a) (guard t d c)
unfolding guard
guarded-both P true a b c d p q = p
guarded-both P false a b c d p q = q

hear-sent : (sent : Sent) (t : Track) (o : Outcome) (reading : Reading) → (hear o sent t reading).sent ≡ sent
hear-sent sent t o reading = hear-cases (λ s. s.sent ≡ sent) sent t o reading (λ _ _. refl) (λ _ _ _ _ _ _ _. refl)

act-sent : (c : Choice) (t : Track) (o : Outcome) (reading : Reading) → (act c t o reading).sent ≡ offer_by c t
act-sent Submit t o reading = hear-sent (sent_of t) (submit t) o reading
act-sent Finish t o reading = refl
act-sent Wait t o reading = hear-sent None t o reading

pub turn-sent : (least : ℕ) (t : Track) (o : Outcome) (reading : Reading) → (counted_of (turn_of least t o reading)).sent ≡ offer_by (choose_of least t) t
unfolding turn_of
turn-sent least t o reading =
    let e = act-sent (choose_of least t) t o reading in
    counted-cases (λ s. s.sent ≡ offer_by (choose_of least t) t) (turn_of least t o reading) (turn-plain least t o reading) (λ _. e) (λ _ _. e)

-- the turn submits what was offered, and is refused where the offer is
pub record Offered (t : Track) (o : Result Sent Refusal) (s : Step) : Type 0 where
  pub is : (sent : Sent) → o ≡ Ok sent → s.sent ≡ sent
  pub refused : (x : Refusal) → o ≡ Err x → s ≡ refused_of x t

bars : (t : Track) (r : Refusal) → Offered t (Err r) (refused_of r t)
bars t r =
    record {
      is = λ sent e. let z : ◌≡◌ {A = ℕ} 0 1 = cc in absurd (omega arith);
      refused = λ x e. let same : r ≡ x = cc in ap (λ (y : Refusal). refused_of y t) same;
    }

own_room : (t : Track) (running : Bool) → (not running || eqb t.room t.room) ≡ true
own_room t true = eq-eqb t.room t.room refl
own_room t false = refl

-- lent the room of the start
pub offered : (t : Track) (len : ℕ) (reading : Reading) → Offered t (offer_call t len) (traced_call t len t.room reading)
unfolding offer_as traced_call
offered t len reading =
    let P : Result Sent Refusal → Step → Type 0 = Offered t in
    let shows : Offered t (Ok (offer_by (choose_of t.descriptors t) t)) (counted_of (turn_of t.descriptors t (comes_to played_of reading) reading)) =
    record {
      is = λ sent e. let same : offer_by (choose_of t.descriptors t) t ≡ sent = cc in turn-sent t.descriptors t _ reading ∙ same;
      refused = λ x e. let z : ◌≡◌ {A = ℕ} 0 1 = cc in absurd (omega arith);
    } in
    subst (Offered t (offer_call t len)) (passes _ _ _ (own_room t t.running) refl)
    (guarded-both P _ _ _ _ _ (guarded-both P _ _ _ _ _ (guarded-both P _ _ _ _ _ shows (bars t _)) (bars t _)) (bars t _))

-- of a capture: the same, but for a turn that is lent too few bytes of its completion
pub record OfferedIfLent (t : Track) (c : Catch) (o : Result Sent Refusal) (s : Step) : Type 0 where
  pub is : (sent : Sent) → o ≡ Ok sent → is_refused s.said ≡ false → s.sent ≡ sent
  pub refused : (x : Refusal) → o ≡ Err x → lends_all t c ≡ true → s ≡ refused_of x t

pub capture-offers : (t : Track) (len : ℕ) (c : Catch) → OfferedIfLent t c (capture_offer t len) (capture_call t len c)
unfolding offer_as capture_call
capture-offers t len c =
    let P : Result Sent Refusal → Step → Type 0 = OfferedIfLent t c in
    let bar : (r : Refusal) → P (Err r) (refused_of r t) = λ r. let b = bars t r in record { is = λ sent e _. b.is sent e; refused = λ x e _. b.refused x e } in
    let shows : P (Ok (offer_by (choose_of t.descriptors t) t)) (caught_turn t.descriptors t c) =
    record {
      is = λ sent e _. let same : offer_by (choose_of t.descriptors t) t ≡ sent = cc in turn-sent t.descriptors t (caught_of t c) c.reading ∙ same;
      refused = λ x e _. let z : ◌≡◌ {A = ℕ} 0 1 = cc in absurd (omega arith);
    } in
    guarded-by (P (capture_offer t len)) _ _ _
    (λ _. guarded-both P _ _ _ _ _ (guarded-both P _ _ _ _ _ (guarded-both P _ _ _ _ _ shows (bar _)) (bar _)) (bar _))
    (λ l. record { is = λ sent e not. absurd (false≢true (sym not)); refused = λ x e k. absurd (false≢true (sym l ∙ k)) })
