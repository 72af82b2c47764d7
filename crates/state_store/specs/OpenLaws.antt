-- The start of a transfer goes by what its checks come to: a refusal, set-up first, or a transfer by periods.
-- Assumes nothing.
use Rattle.std.specs.Prelude.{◌≡◌, ℕ, ◌≤◌, Bool, true, false, ◌&&◌, List, length, nat_le, refl, Result, Ok, Err}
use Rattle.std.proofs.Common.{sym, ap, ◌∙◌, subst, arith, leb-true}
use Rattle.layout.specs.Lent.{message_size}
use Rattle.codes.specs.SaysLaws.{stops}
use Rattle.turns.specs.ConsistentLaws.{both}
use Rattle.pending.specs.Table.{none_in}
use Rattle.exchange.specs.State.{params_of, life_of, pcm_of}
use Rattle.sound_core.specs.Gate.{gate_of}
use Rattle.exchange.specs.Xfer.{gate_as}
use Rattle.exchange.specs.StepLaws as step
use Rattle.sound_core.specs.declared.gate.Gate.TheVariants as gate
use Rattle.state_store.specs.Places.{head_size, state_size}
use Rattle.state_store.specs.Store.{head_at, core_of, sound_of}
use Rattle.state_store.specs.Calls.{Opened, opened, shut, setting_up_with, open_as}
use Rattle.state_store.specs.StoreLaws.{core_at}
use Rattle.state_store.specs.Types.{Refusal, BadLength, Track, Call, Params, Core, Gate, SetUp}

module _ (capture : Bool) (call : Call) (s m : List ℕ) (t : Track) (stream : ℕ) where
  abbrev long : Bool
  long = nat_le state_size (length s) && nat_le message_size (length m)

  abbrev pub gate_in : Result Gate Refusal
  gate_in = gate_as capture long (none_in (sound_of s).pending) (sound_of s) t stream

  pub gated : {b d : Bool} {c : Core} {p : Params} {life direction : ℕ} {g : Result Gate Refusal} → b ≡ long → d ≡ none_in (sound_of s).pending → c ≡ core_of (head_at s) → p ≡ params_of (sound_of s) stream → life ≡ life_of (sound_of s) stream
      → direction ≡ (pcm_of (sound_of s) stream).direction → g ≡ gate_of capture b d c p life direction t stream → g ≡ gate_in
  gated b d c p l f g = g ∙ (λ i. gate_of capture (b i) (d i) ((c ∙ sym (core_at s)) i) (p i) (l i) (f i) t stream)

  -- where they are not, the gate is shut
  pub shut-short : long ≡ false → Err BadLength ≡ gate_in
  shut-short e = stops _ _ _ e refl

  pub long-open : long ≡ true → state_size ≤ length s
  long-open e = leb-true state_size (length s) (both (nat_le state_size (length s)) (nat_le message_size (length m)) e).0

  pub long-head : long ≡ true → head_size ≤ length s
  long-head e = omega (arith, long-open e)

  -- set-up is begun only where the lengths are right
  pub set-up-long : (Ok SetUp) ≡ gate_in → (state_size ≤ length s) × (message_size ≤ length m)
  set-up-long e =
      let h = both (nat_le state_size (length s)) (nat_le message_size (length m)) (step.set-up-long capture long (none_in (sound_of s).pending) (sound_of s) t stream e) in
      (leb-true state_size (length s) h.0, leb-true message_size (length m) h.1)

  abbrev pub open_by : Result Gate Refusal → Opened
  open_by (Err x) = shut s m x
  open_by (Ok SetUp) = setting_up_with s call m
  open_by (Ok (gate.Open period)) = opened (Ok period) s m

  pub opens : (g : Result Gate Refusal) → g ≡ gate_in → open_by g ≡ open_as capture call s t stream m
  opens g e = ap open_by e ∙ step.xfer-as-ap open_by capture long (none_in (sound_of s).pending) (sound_of s) t stream Err (Ok SetUp) (λ (n : ℕ). Ok (gate.Open n))

  -- what holds at each end of the checks holds of the start
  pub opened-by : (P : Opened → Type 0) → ((g : Result Gate Refusal) → g ≡ gate_in → P (open_by g)) → P (open_as capture call s t stream m)
  opened-by P f = subst P (opens gate_in refl) (f gate_in refl)
