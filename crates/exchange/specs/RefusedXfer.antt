-- Theorems: a transfer that is refused, at its start or over a script, leaves the state and the ring as they were.
-- Assumes nothing.
use Rattle.std.specs.Prelude.{◌≡◌, ℕ, zero, suc, List, refl}
use Rattle.std.proofs.Common.{sym, ap, ◌∙◌, subst}
use Rattle.codes.specs.SaysLaws.{guarded-by}
use Rattle.turns.specs.Calls.{start_call, started_of}
use Rattle.turns.specs.Rules.{comes_to, played_of}
use Rattle.turns.specs.Log.{Ran, loop_of, first_of, rest_of, played, ruled, run}
use Rattle.turns.specs.Script.{script_of, transfer_by, transfer_of}
use Rattle.turns.specs.CaseLaws.{Plain, plain, onward-cases}
use Rattle.turns.specs.RefusalLaws.{turn-answers, traced-start-refused, ring-untouched}
use Rattle.turns.specs.HostLaws.{begins, Runs, link}
use Rattle.turns.specs.Demand as turns
use Rattle.exchange.specs.CaptureLaws.{capture-start-refusal}
use Rattle.turns.specs.declared.ring.Said.TheVariants.{Done, Refused}
use Rattle.exchange.specs.State.{params_of}
use Rattle.exchange.specs.Xfer.{start_of, start_traced_of, xfer_of, capture_of}
use Rattle.exchange.specs.XferLaws.{start-by, script-by, traced-by, capture-by}
use Rattle.exchange.specs.ResultLaws.{wrong, says-said}
use Rattle.exchange.specs.Types.{Refusal, Track, Ring, Said, Going, Ended, Reading, Transferred, Sound, Says, XferStep}

-- ---- a transfer that runs is answered, never refused

run-plain : (least fuel : ℕ) (t : Track) (script : List Reading) → Plain (run played least fuel t script).said
unfolding loop_of
run-plain least zero t script = tt
run-plain least (suc fuel) t script =
    let x = first_of script in
    let s = ruled played least t x in
    onward-cases (λ (o : Ran Track). Plain o.said) s.line.said s.line s.left (run played least fuel s.left (rest_of script))
    (λ _. run-plain least fuel s.left (rest_of script)) (λ _. turn-answers least t (comes_to played_of x) x)

module _ (r : Ring) (stream len period budget : ℕ) (bytes : List ℕ) (x : Refusal) where
  abbrev start : Said
  start = (started_of r (start_call r.track stream len period budget)).said

  abbrev ring : Ring
  ring = (started_of r (start_call r.track stream len period budget)).ring

  abbrev Unrun : Transferred → Type 0
  Unrun d = (d.ring ≡ r) × (d.turns ≡ 0)

  refused-by : (said : Said) → start ≡ said → (transfer_by said len budget ring (script_of bytes)).said ≡ Refused x → Unrun (transfer_by said len budget ring (script_of bytes))
  refused-by Going e f =
      let b = begins r.track stream len period budget e in
      let same = link ring.track.descriptors len budget ring (script_of bytes) refl (subst (Runs len) (sym b.track) b.runs) in
      absurd (plain _ (run-plain ring.track.descriptors budget ring.track (script_of bytes)) x (sym (ap (λ (o : Ran Track). o.said) same) ∙ f))
  refused-by Done e f = absurd (plain Done tt x f)
  refused-by (Ended a) e f = absurd (plain (Ended a) tt x f)
  refused-by (Refused a) e f = (turns.start-refusal r a stream len period budget e, refl)

  script-refused : (transfer_of r stream len period budget bytes).said ≡ Refused x → Unrun (transfer_of r stream len period budget bytes)
  unfolding transfer_of
  script-refused = guarded-by (λ (d : Transferred). d.said ≡ Refused x → Unrun d) _ _ _ (λ _. refused-by start refl) (λ _ _. (refl, refl))

-- ---- THE THEOREMS. "A refused call changes .. no state but what that table names"; "A refusal before the first turn reports 0."

module _ (s : Sound) (r : Ring) (stream len budget n : ℕ) (x : Refusal) where
  abbrev pub Unchanged : XferStep → Type 0
  Unchanged u = u.reply ≡ Says (Refused x) → (u.sound ≡ s) × (u.ring ≡ r) × (u.turns ≡ 0)

  pub refused-start : Unchanged (start_of s r stream len budget n)
  refused-start =
      start-by Unchanged s r stream len budget n (λ _ _. (refl, refl, refl)) (λ _ _ _ e. absurd (wrong (cc)))
      (λ e. (refl, turns.start-refusal r x stream len (params_of s stream).period budget (says-said e), refl))

  pub refused-capture : (periods : ℕ) → Unchanged (capture_of s r stream periods len budget n)
  refused-capture periods =
      capture-by Unchanged s r stream periods len budget n (λ _ _. (refl, refl, refl)) (λ _ _ _ e. absurd (wrong (cc)))
      (λ _ e. (refl, capture-start-refusal r x stream periods (params_of s stream).period len budget (says-said e), refl))

  pub refused-traced : (room : ℕ) → Unchanged (start_traced_of s r stream len budget room n)
  refused-traced room =
      traced-by Unchanged s r stream len budget room n (λ _ _. (refl, refl, refl)) (λ _ _ _ e. absurd (wrong (cc)))
      (λ _ e. (refl, ring-untouched r _ (traced-start-refused r.track stream len (params_of s stream).period budget room) x (says-said e), refl))

  pub refused-script : (bytes : List ℕ) → Unchanged (xfer_of s r stream len budget bytes n)
  refused-script bytes =
      script-by Unchanged s r stream len budget n (λ _ _. (refl, refl, refl)) (λ _ _ _ e. absurd (wrong (cc))) bytes
      (λ e. let u = script-refused r stream len (params_of s stream).period budget bytes x (says-said e) in (refl, u.0, u.1))
