-- What a call's own part can lead to, once set-up is done: every theorem on it goes by these cases.
-- Assumes nothing.
use Rattle.std.specs.Prelude.{◌≡◌, ℕ, ◌<◌, Bool, true, false, ◌≢◌, nat_lt, refl, Ok}
use Rattle.std.proofs.Common.{inl, inr, ltb-true}
use Rattle.std.proofs.lemmas.Bool.{eqb-false, not-true}
use Rattle.codes.specs.Says.{pick}
use Rattle.codes.specs.Answers.{says_refusal}
use Rattle.codes.specs.Life.{permits_of}
use Rattle.codes.specs.SaysLaws.{guarded-by}
use Rattle.sound_core.specs.Consistent.{period_ok, held_to}
use Rattle.sound_core.specs.Plan.{send_of, end_of, kind_code, kind_life, set_of, can_remap, found_of, life_in, refusing, own_set, own_command, own_remap, own_supported, own_xfer, own_of}
use Rattle.sound_core.specs.declared.plan.Request.TheVariants as request
use Rattle.sound_core.specs.declared.plan.Value.TheVariants as value
use Rattle.exchange.specs.Types.{NoStatus, Refusal, InvalidParam, IoError, Unsupported, NoInfo, BadState, Params, Kind, Field, Call, SetParams, Command, Remap, Streams, Supported, Xfer, Capture, Sent, Core, Look, Done, Nothing, Plan}
use Rattle.exchange.specs.Feed.{One, own_refusals}

-- what holds of both ends of a choice holds of it
pub picked-by : {A : Type 0} (P : A → Type 0) (t : Bool) (a b : A) → (t ≡ true → P a) → (t ≡ false → P b) → P (pick t a b)
picked-by P true a b f g = f refl
picked-by P false a b f g = g refl

-- ---- the call's own part

pub data Own (c : Core) (look : Look) : Call → Plan → Type 0 where
  sets : {stream : ℕ} {to : Params} → period_ok to.buffer to.period ≡ true → stream < c.counts.streams → held_to c.guard (permits_of (life_in look) 0) ≡ true
      → Own c look (SetParams stream to) (send_of c (Sent (SetParams stream to)) (request.Set (set_of stream to)) Nothing)
  commands : {kind : Kind} {stream : ℕ} → held_to c.guard (nat_lt stream c.counts.streams) ≡ true → held_to c.guard (permits_of (life_in look) (kind_life kind)) ≡ true
      → Own c look (Command kind stream) (send_of c (Sent (Command kind stream)) (request.Command (record { code = kind_code kind; stream = stream })) Nothing)
  remaps : {jack association sequence : ℕ} → jack < c.counts.jacks → (c.read.jacks ≢ 0) → can_remap look ≡ true
      → Own c look (Remap jack association sequence) (send_of c (Sent (Remap jack association sequence)) (request.Remap (record { code = 0x0002; jack = jack; association = association; sequence = sequence })) Nothing)
  lists : {direction : ℕ} → Own c look (Streams direction) (end_of c (Ok (Done (value.Streams direction))) Nothing)
  tells : {field : Field} {stream : ℕ} → stream < c.counts.streams → Own c look (Supported field stream) (end_of c (Ok (Done (found_of look))) Nothing)
  refuses : {call : Call} (r : Refusal) → One (says_refusal r).number (own_refusals call) → Own c look call (refusing c r)

module _ (c : Core) (look : Look) where
  own-set : (stream : ℕ) (to : Params) → Own c look (SetParams stream to) (own_set c stream to look)
  unfolding own_set
  own-set stream to =
      let P = Own c look (SetParams stream to) in
      guarded-by P _ _ _
      (λ e. guarded-by P _ _ _
      (λ f. guarded-by P _ _ _ (λ g. sets e (ltb-true _ _ f) g) (λ _. refuses BadState (inr (inl refl)))) (λ _. refuses InvalidParam (inl refl)))
      (λ _. refuses InvalidParam (inl refl))

  own-command : (kind : Kind) (stream : ℕ) → Own c look (Command kind stream) (own_command c kind stream look)
  unfolding own_command
  own-command kind stream =
      let P = Own c look (Command kind stream) in
      guarded-by P _ _ _ (λ e. guarded-by P _ _ _ (λ f. commands e f) (λ _. refuses BadState (inr (inl refl)))) (λ _. refuses InvalidParam (inl refl))

  own-remap : (jack a q : ℕ) → Own c look (Remap jack a q) (own_remap c jack a q look)
  unfolding own_remap
  own-remap jack a q =
      let P = Own c look (Remap jack a q) in
      guarded-by P _ _ _
      (λ e. guarded-by P _ _ _
      (λ f. guarded-by P _ _ _ (λ g. remaps (ltb-true _ _ e) (eqb-false _ _ (not-true _ f)) g) (λ _. refuses (Unsupported NoStatus) (inr (inl refl))))
      (λ _. refuses NoInfo (inr (inr (inl refl)))))
      (λ _. refuses InvalidParam (inl refl))

  pub own : (call : Call) → Own c look call (own_of c call look)
  unfolding own_supported own_xfer
  own (SetParams stream to) = own-set stream to
  own (Command kind stream) = own-command kind stream
  own (Remap jack a q) = own-remap jack a q
  own (Streams direction) = lists
  own (Supported field stream) = guarded-by (Own c look (Supported field stream)) _ _ _ (λ e. tells (ltb-true _ _ e)) (λ _. refuses InvalidParam (inl refl))
  own (Xfer stream) =
      let P = Own c look (Xfer stream) in
      guarded-by P _ _ _ (λ _. guarded-by P _ _ _ (λ _. refuses (IoError NoStatus) (inr (inl refl))) (λ _. refuses BadState (inr (inr (inl refl))))) (λ _. refuses InvalidParam (inl refl))
  own (Capture stream) =
      let P = Own c look (Capture stream) in
      guarded-by P _ _ _
      (λ _. guarded-by P _ _ _
      (λ _. guarded-by P _ _ _ (λ _. refuses (IoError NoStatus) (inr (inl refl))) (λ _. refuses InvalidParam (inl refl))) (λ _. refuses BadState (inr (inr (inl refl)))))
      (λ _. refuses InvalidParam (inl refl))
