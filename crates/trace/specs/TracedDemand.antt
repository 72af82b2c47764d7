-- DEMAND 3 OF A TRANSFER THAT WRITES A TRACE (2026-11), both halves, and any host: a trace changes nothing else (`trace-says-same`), so it is demand 3 of
-- the transfer that writes none.
-- Assumes nothing.
use Rattle.std.specs.Prelude.{ℕ, ◌+◌, ◌*◌, ◌≤◌, ◌<◌, ◌≡◌, List, length, None}
use Rattle.std.proofs.Common.{sym, ◌∙◌, subst}
use Rattle.layout.specs.All.{All}
use Rattle.turns.specs.Cut.{cut}
use Rattle.turns.specs.Calls.{start_traced, ring_after}
use Rattle.turns.specs.Log.{Ran, called}
use Rattle.turns.specs.LoopLaws.{same-said}
use Rattle.turns.specs.Asked.{starts, plays, NoFault, CompletesWithin, Idle, LineCarries, Whole}
use Rattle.turns.specs.StatusCarried.{status-carried}
use Rattle.turns.specs.Demand.{ok-in-time, ok-only-if}
use Rattle.turns.specs.RefusalLaws.{ring-untouched}
use Rattle.turns.specs.RefusedTurns.{LeavesIt, goes_over, admitted_by, upshot, any-loop}
use Rattle.trace.specs.Writer.{writing_call, Penned, tracing, traces}
use Rattle.trace.specs.TracedLaws.{goes-too, writing-refused}
use Rattle.trace.specs.Written.{trace-says-same, refused-writes-nothing}
use Rattle.trace.specs.Types.{Ring, Going, Done, Reading}

-- the turns after a start that goes on, lent frames and a room
abbrev pub traces_from : Ring → ℕ → ℕ → ℕ → List ℕ → List ℕ → List Reading → Ran Penned
traces_from r stream period budget frames room script =
    traces (length frames) budget (record { ring = ring_after r (start_traced r.track stream (length frames) period budget (length room)); room = room }) script

module _ (r : Ring) (stream period budget : ℕ) (frames room : List ℕ) (script : List Reading)
    (began : (start_traced r.track stream (length frames) period budget (length room)).said ≡ Going) (low : period < 4294967296) where
  abbrev h : Ran Penned
  h = traces_from r stream period budget frames room script

  same_log : h.log ≡ (plays r stream period budget frames script).log
  same_log = trace-says-same r stream period budget frames room script began low

  -- and it says what the transfer without a trace says
  pub traced-says-same : h.said ≡ (plays r stream period budget frames script).said
  traced-says-same = same-said None (tracing (length frames)) (called (length frames)) budget budget _ _ script script same_log

  -- "the transfer answers Ok no later than turn n times g plus 1"
  pub traced-in-time : (g : ℕ) → Idle r → 0 < period → 0 < g → length (cut period frames) * g + 1 ≤ budget → All NoFault h.log → CompletesWithin g h.log
      → (h.said ≡ Done) × (length h.log ≤ length (cut period frames) * g + 1)
  traced-in-time g idle some pos enough right every =
      let a = (ok-in-time r stream period budget g frames script idle some pos enough).1 (subst (All NoFault) same_log right) (subst (CompletesWithin g) same_log every) in
      (traced-says-same ∙ a.0, rw same_log a.1)

  -- "Ok is answered only if all n periods went out in order, ..": with no premise about the queue
  pub traced-only-if : h.said ≡ Done → Whole stream period frames h.log
  traced-only-if ok =
      let goes = sym (goes-too r.track stream (length frames) period budget (length room) began) in
      subst (Whole stream period frames) (sym same_log) (ok-only-if r stream period budget frames script goes (sym traced-says-same ∙ ok))

  -- 2026-05 of it: a 2 carries the status of the completion that its turn read
  pub traced-status-carried : All LineCarries h.log
  traced-status-carried = subst (All LineCarries) (sym same_log) (status-carried (length frames) budget (starts r stream period budget frames).ring script)

-- ---- any host: one that goes on after a turn that was refused, for frames or a room of another length

traced-leaves : (len : ℕ) → LeavesIt (tracing len)
traced-leaves len a x r e =
    let p = refused-writes-nothing a.ring.track len x a.room r e in
    let ring = ring-untouched a.ring (writing_call a.ring.track len (length a.room) x) (writing-refused a.ring.track len (length a.room) x) r e in
    λ i. record { ring = ring i; room = p.1 i }

pub any-traced : (len : ℕ) (a : Penned) (xs : List Reading) → let ys = admitted_by (tracing len) a xs in goes_over (tracing len) a xs ≡ upshot (traces len (length ys) a ys)
any-traced len a xs = any-loop None (tracing len) (traced-leaves len) a xs
