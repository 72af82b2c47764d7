-- Theorems: "Guard off, all reads as before." Each decision that the guard touches is then the one of document 01, written out; each refusal of 12 and the commands' own
-- range check are gone.
-- Assumes nothing.
use Rattle.std.specs.Prelude.{◌≡◌, ℕ, Bool, true, false, not, ◌==◌, nat_lt}
use Rattle.std.specs.Prelude.{refl}
use Rattle.std.proofs.Common.{sym, ◌∙◌}
use Rattle.std.proofs.Math.Path.{ap}
use Rattle.codes.specs.Says.{guard}
use Rattle.codes.specs.SaysLaws.{passes}
use Rattle.sound_core.specs.Consistent.{held_to, period_ok, sent_ok}
use Rattle.sound_core.specs.Plan.{send_of, kind_code, set_of, refusing, own_set, own_command, own_xfer}
use Rattle.sound_core.specs.Gate.{rest_by}
use Rattle.sound_core.specs.declared.plan.Request.TheVariants as request
use Rattle.sound_core.specs.Types.{NoStatus, Refusal, InvalidParam, IoError, Params, Kind, Command, SetParams, Sent, Core, Look, Nothing}

module _ (c : Core) (off : c.guard ≡ false) where
  -- a test that is made under the guard alone refuses nothing
  unheld : {A : Type 0} (test : Bool) (a b : A) → guard (held_to c.guard test) a b ≡ b
  unheld test a b = sym (passes _ a b (ap (λ (g : Bool). held_to g test) off) refl)

  pub off_set : (stream : ℕ) (to : Params) (look : Look) → own_set c stream to look
      ≡ guard (period_ok to.buffer to.period) (refusing c InvalidParam)
      (guard (nat_lt stream c.counts.streams) (refusing c InvalidParam)
      (send_of c (Sent (SetParams stream to)) (request.Set (set_of stream to)) Nothing))
  unfolding own_set
  off_set stream to look = ap (guard _ _) (ap (guard _ _) (unheld _ _ _))

  -- "Prepare, release, start, stop: sent with any stream id"
  pub off-command : (kind : Kind) (stream : ℕ) (look : Look) → own_command c kind stream look
      ≡ send_of c (Sent (Command kind stream)) (request.Command (record { code = kind_code kind; stream = stream })) Nothing
  unfolding own_command
  off-command kind stream look = unheld _ _ _ ∙ unheld _ _ _

  pub off-xfer : (stream : ℕ) (look : Look) → own_xfer false c stream look ≡ guard (nat_lt stream c.counts.streams) (refusing c InvalidParam) (refusing c (IoError NoStatus))
  unfolding own_xfer
  off-xfer stream look = ap (guard _ _) (unheld _ _ _)

  pub off-gate : {A : Type 0} (p : Params) (life direction stream : ℕ) (refuse : Refusal → A) (set_up : A) (go : ℕ → A) → rest_by false c p life direction stream refuse set_up go
      ≡ guard c.ready set_up
      (guard (nat_lt stream c.counts.streams) (refuse InvalidParam)
      (guard (not (p.known == 0)) (refuse (IoError NoStatus))
      (go p.period)))
  off-gate p life direction stream refuse set_up go = ap (guard _ _) (ap (guard _ _) (unheld _ _ _))

  pub off-sent : (kind : Kind) (stream streams : ℕ) → sent_ok c.guard (Command kind stream) streams ≡ true
  off-sent kind stream streams = ap (λ (g : Bool). held_to g (nat_lt stream streams)) off
