-- Theorem: "the writer gives 10, last before the first turn". With a message buffer that is long enough, a start that writes a trace answers 10 only where the start
-- without a trace goes on, and then for one of the writer's two reasons.
-- Assumes nothing.
use Rattle.std.specs.Prelude.{◌≡◌, ℕ, ◌+◌, ◌*◌, ◌<◌, ◌≤◌, Bool, true, false, ◌⊎◌, refl}
use Rattle.std.proofs.Common.{sym, ap, ◌∙◌, inl, inr, arith, le-leb, ltb-false, leb-false}
use Rattle.std.proofs.lemmas.Bool.{false≢true}
use Rattle.layout.specs.Lent.{message_size}
use Rattle.codes.specs.Says.{guard}
use Rattle.codes.specs.SaysLaws.{guarded-by}
use Rattle.turns.specs.Ring.{said_word}
use Rattle.turns.specs.Calls.{periods_of, start_call, start_traced}
use Rattle.turns.specs.declared.ring.Step as step
use Rattle.exchange.specs.State.{params_of}
use Rattle.exchange.specs.Xfer.{xfer_word, start_of, start_traced_of}
use Rattle.exchange.specs.Types.{Track, Ring, Said, Going, Sound, Says, XferStep}

-- two chains with the same tests
pair-by : {A B : Type 0} (P : A → B → Type 0) (t : Bool) (a b : A) (c d : B) → (t ≡ true → P b d) → (t ≡ false → P a c) → P (guard t a b) (guard t c d)
unfolding guard
pair-by P true a b c d f g = f refl
pair-by P false a b c d f g = g refl

-- "for frames of 2^32 bytes or more or room under 19 + 20n"
abbrev pub Lacks : ℕ → ℕ → ℕ → Type 0
Lacks len period room = (4294967296 ≤ len) ⊎ (room < 19 + 20 * periods_of len period)

-- ---- the ring's part

ring-order : (t : Track) (stream len period budget room : ℕ) → said_word (start_traced t stream len period budget room).said ≡ 10 → ((start_call t stream len period budget).said ≡ Going) × Lacks len period room
unfolding start_traced start_call
ring-order t stream len period budget room =
    let P : step.Step → step.Step → Type 0 = λ x y. said_word x.said ≡ 10 → (y.said ≡ Going) × Lacks len period room in
    let Q : step.Step → Type 0 = λ x. said_word x.said ≡ 10 → (◌≡◌ {A = Said} Going Going) × Lacks len period room in
    pair-by P _ _ _ _ _
    (λ _. pair-by P _ _ _ _ _
    (λ _. pair-by P _ _ _ _ _
    (λ _. pair-by P _ _ _ _ _
    (λ _. guarded-by Q _ _ _ (λ _. guarded-by Q _ _ _ (λ _ e. absurd (omega arith)) (λ no _. (refl, inr (leb-false _ _ no)))) (λ no _. (refl, inl (ltb-false _ _ no))))
    (λ _ e. absurd (omega arith)))
    (λ _ e. absurd (omega arith)))
    (λ _ e. absurd (omega arith)))
    (λ _ e. absurd (omega arith))

-- ---- THE THEOREM

pub traced-start-order : (s : Sound) (r : Ring) (stream len budget room n : ℕ) → message_size ≤ n → xfer_word (start_traced_of s r stream len budget room n).reply ≡ 10
    → ((start_of s r stream len budget n).reply ≡ Says Going) × Lacks len (params_of s stream).period room
unfolding start_traced_of start_of
traced-start-order s r stream len budget room n long =
    let period = (params_of s stream).period in
    let P : XferStep → XferStep → Type 0 = λ x y. xfer_word x.reply ≡ 10 → (y.reply ≡ Says Going) × Lacks len period room in
    pair-by P _ _ _ _ _
    (λ _. pair-by P _ _ _ _ _
    (λ _. pair-by P _ _ _ _ _
    (λ _. pair-by P _ _ _ _ _
    (λ _. pair-by P _ _ _ _ _
    (λ _. pair-by P _ _ _ _ _
    (λ _. pair-by P _ _ _ _ _ (λ _ e. let o = ring-order r.track stream len period budget room e in (ap Says o.0, o.1)) (λ _ e. absurd (omega arith)))
    (λ _ e. absurd (omega arith)))
    (λ _ e. absurd (omega arith)))
    (λ _ e. absurd (omega arith)))
    (λ _ e. absurd (omega arith)))
    (λ _ e. absurd (omega arith)))
    (λ no _. absurd (false≢true (sym no ∙ le-leb message_size n long)))
