-- The payloads that the log itself shows as accepted are those of the first good completions.
-- Assumes nothing.
use Rattle.std.specs.Prelude.{ℕ, zero, suc, ◌*◌, ◌%◌, ◌≤◌, ◌<◌, ◌≡◌, refl, Bool, true, false, ◌&&◌, List, [], ◌∷◌, map, eqb, length, get_or, take, None}
use Rattle.std.proofs.Common.{arith, ap, ◌∙◌, eq-eqb, ne_eqb, eqb-true}
use Rattle.codes.specs.Says.{pick}
use Rattle.turns.specs.Cut.{cut, payload, span_of}
use Rattle.turns.specs.Ring.{says_said}
use Rattle.turns.specs.Log.{Ran, sends, frees}
use Rattle.turns.specs.Heard.{HeardOut, spoken, failed, completes_good, accepted_payloads}
use Rattle.turns.specs.Types.{Ring, Sent, Heard, sent_period}

-- k good ones, and then at most one, which is not
first_good : (frames : List ℕ) (k : ℕ) (ss : List Sent) (hs : List Heard) → k ≤ length ss → k ≤ length hs → length hs ≤ suc k
    → ((i : ℕ) → i < k → completes_good (get_or ss i None) (get_or hs i None) ≡ true) → (k < length hs → completes_good (get_or ss k None) (get_or hs k None) ≡ false)
    → accepted_payloads frames ss hs ≡ map (payload frames) (take k ss)
first_good frames zero [] hs a b c g e = refl
first_good frames zero (s ∷ ss) [] a b c g e = refl
first_good frames zero (s ∷ ss) (h ∷ []) a b c g e =
    ap (λ (z : Bool). pick z (payload frames s ∷ accepted_payloads frames ss []) (accepted_payloads frames ss [])) (e (omega arith)) ∙ none ss
  where
    none : (xs : List Sent) → accepted_payloads frames xs [] ≡ []
    none [] = refl
    none (x ∷ xs) = refl
first_good frames zero (s ∷ ss) (h ∷ (j ∷ hs)) a b c g e = absurd (omega arith)
first_good frames (suc k) [] hs a b c g e = absurd (omega arith)
first_good frames (suc k) (s ∷ ss) [] a b c g e = absurd (omega arith)
first_good frames (suc k) (s ∷ ss) (h ∷ hs) a b c g e =
    ap (λ (z : Bool). pick z (payload frames s ∷ accepted_payloads frames ss hs) (accepted_payloads frames ss hs)) (g 0 (omega arith))
    ∙ ap (λ (l : List (List ℕ)). payload frames s ∷ l)
    (first_good frames k ss hs (omega arith) (omega arith) (omega arith) (λ i l. g (suc i) (omega arith)) (λ l. e (omega arith)))

both_true : (a b : Bool) → a ≡ true → b ≡ true → (a && b) ≡ true
both_true a b p q = rw (p, q)

second-false : (a b : Bool) → b ≡ false → (a && b) ≡ false
second-false true b q = q
second-false false b q = refl

module _ (period : ℕ) (frames : List ℕ) (h : Ran Ring) (o : HeardOut period frames h) where
  few : failed h ≤ 1
  few = by-pick (eqb (says_said h.said).number 2)
    where
      by-pick : (z : Bool) → pick z 1 0 ≤ 1
      by-pick true = omega arith
      by-pick false = omega arith

  fails : failed h ≡ 1 → (says_said h.said).number ≡ 2
  fails e = by-test (eqb (says_said h.said).number 2) refl e
    where
      by-test : (z : Bool) → eqb (says_said h.said).number 2 ≡ z → ◌≡◌ {A = ℕ} (pick z 1 0) 1 → (says_said h.said).number ≡ 2
      by-test true p q = eqb-true (says_said h.said).number 2 p
      by-test false p q = absurd (omega arith)

  abbrev out : ℕ → Sent
  out i = sent_period (i % 32) (i * period) (span_of period (length frames) (i * period))

  is-good : (i : ℕ) → i < spoken h → completes_good (get_or (sends h.log) i None) (get_or (frees h.log) i None) ≡ true
  is-good i l =
      ap (λ (x : Sent). completes_good x (get_or (frees h.log) i None)) (o.order i (omega (arith, o.all)))
      ∙ ap (completes_good (out i)) (o.good i l)
      ∙ both_true _ _ (eq-eqb (i % 32) (i % 32) refl) refl

  is-bad : spoken h < length (frees h.log) → completes_good (get_or (sends h.log) (spoken h) None) (get_or (frees h.log) (spoken h) None) ≡ false
  is-bad l =
      let f = o.failing (fails (omega (arith, o.heard, few))) in
      ap (λ (x : Sent). completes_good x (get_or (frees h.log) (spoken h) None)) (o.order (spoken h) f.0)
      ∙ ap (completes_good (out (spoken h))) f.2.1
      ∙ second-false (eqb (spoken h % 32) (spoken h % 32)) (eqb f.2.0 0x8000) (ne_eqb f.2.0 0x8000 f.2.2)

  pub accepts-first : accepted_payloads frames (sends h.log) (frees h.log) ≡ take (spoken h) (cut period frames)
  accepts-first =
      first_good frames (spoken h) (sends h.log) (frees h.log) (omega (arith, o.all)) (omega (arith, o.heard)) (omega (arith, o.heard, few)) is-good is-bad
      ∙ o.accepted
