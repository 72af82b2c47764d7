-- A transfer that the model device plays, turn after turn: it says Ok on the turn after its last period, and all its bytes are counted.
-- Assumes nothing.
use Rattle.std.specs.Prelude.{◌≡◌, ℕ, zero, suc, ◌+◌, ◌-◌, ◌<◌, ◌≤◌, false, List, [], ◌++◌, length, take, drop, slice_set, Result, Ok, None}
use Rattle.std.proofs.Math.Path.{refl, ap, subst}
use Rattle.std.proofs.Common.{sym, ◌∙◌, arith, length-drop, length-take-le}
use Rattle.std.proofs.Math.Decide.{dec_lt}
use Rattle.layout.specs.Bytes.{le}
use Rattle.turns.specs.Cut.{cut, span_of}
use Rattle.turns.specs.CutLaws.{spans, spans-more, spans-done, plan-count}
use Rattle.turns.specs.Ring.{after}
use Rattle.turns.specs.Rules.{choose_of, ticked}
use Rattle.turns.specs.ConsistentLaws.{consistent-facts, mode_small}
use Rattle.turns.specs.Asked.{Idle, starts}
use Rattle.turns.specs.Calls.{carry, start_call, ring_after, offer_by, shown_by}
use Rattle.turns.specs.Log.{Ran, Told, onward, waiting_by, loop_of, loop, called}
use Rattle.turns.specs.HostLaws.{Runs, call-turns, runs_on, begins}
use Rattle.turns.specs.HostLaws as host
use Rattle.codes.specs.declared.answers.Refusal.{Refusal}
use Rattle.turns.specs.Types.{Sent}
use Rattle.turns.specs.declared.ring.Step.{Step}
use Rattle.model.specs.Transfer.{played_by}
use Rattle.worked.specs.Types.{Slot, Track, Ring, Going, Done, Choice, Device, completion, freed_slot, sent_period}
use Rattle.worked.specs.Play.{Desk, comes_of, turn_at, attended}
use Rattle.worked.specs.PlayLaws.{Plays, played-none, played-more, plays-still, status-is, device-is, track_at, submitted, finished, goes, stops, offers}

-- how it ends: with Ok, after n turns, and the device is e
pub record Ends (n : ℕ) (e : Device) (x : Ran Desk) : Type 0 where
  pub said : x.said ≡ Done
  pub turns : length x.log ≡ n
  pub device : x.at.device ≡ e

module _ (per stream period budget : ℕ) (frames : List ℕ) (room : per ≤ 32) where
  abbrev total : ℕ
  total = length frames

  abbrev tk : ℕ → ℕ → ℕ → Track
  tk h o k = track_at per stream total period budget h o k

  abbrev pub desk : ℕ → ℕ → ℕ → List Slot → Device → Desk
  desk h o k slots d = record { ring = record { track = tk h o k; slots = slots }; device = d }

  -- a turn of which the offer is known
  abbrev turn_by : Desk → Result Sent Refusal → Told Desk
  turn_by x a =
      let g = comes_of a x.device (le 4 stream ++ shown_by a frames) in
      let u = called total x.ring g.reading in
      record { left = record { ring = u.left; device = g.device }; line = u.line }

  module _ (h o k : ℕ) (slots : List Slot) (d : Device) (p : Plays d stream) (r : Runs total (tk h o k)) where
    abbrev span : ℕ
    span = span_of period total o

    abbrev r₀ : Ring
    r₀ = record { track = tk h o k; slots = slots }

    abbrev w : ℕ
    w = waiting_by (choose_of per (tk h o k)) (tk h o k)

    turn-goes : o < total → k + 1 < budget → turn_at frames (desk h o k slots d)
        ≡ record {
          left = desk (after h) (o + span) (k + 1) (slice_set slots h (record { offset = o; len = span })) (played_by d stream span);
          line = record { sent = sent_period h o span; waiting = w; reading = completion h 0x8000; heard = freed_slot h 0x8000; said = Going };
        }
    turn-goes more left =
        let part = take span (drop o frames) in
        let long : length part ≡ span = length-take-le span (drop o frames) (omega (arith, length-drop o frames)) in
        let device = device-is d stream p part ∙ ap (played_by d stream) long in
        let e = sym (call-turns total (tk h o k) (completion h 0x8000) r) ∙ goes per stream total period budget h o k room more left in
        ap (turn_by (desk h o k slots d)) (offers per stream total period budget h o k room r ∙ ap (λ (c : Choice). Ok (offer_by c (tk h o k))) (submitted per stream total period budget h o k room more))
        ∙ (λ i. let u = called total r₀ (completion h (status-is d stream p part i)) in record { left = record { ring = u.left; device = device i }; line = u.line })
        ∙ ap (λ (s : Step). record { left = record { ring = ring_after r₀ s; device = played_by d stream span }; line = record { sent = s.sent; waiting = w; reading = completion h 0x8000; heard = s.heard; said = s.said } }) e

    turn-stops : total ≤ o → turn_at frames (desk h o k slots d)
        ≡ record { left = record { ring = record { track = ticked false (tk h o k); slots = slots }; device = d }; line = record { sent = None; waiting = w; reading = None; heard = None; said = Done } }
    turn-stops none =
        let e = sym (call-turns total (tk h o k) None r) ∙ stops per stream total period budget h o k room none _ None in
        ap (turn_by (desk h o k slots d)) (offers per stream total period budget h o k room r ∙ ap (λ (c : Choice). Ok (offer_by c (tk h o k))) (finished per stream total period budget h o k room none))
        ∙ ap (λ (s : Step). record { left = record { ring = ring_after r₀ s; device = d }; line = record { sent = s.sent; waiting = w; reading = None; heard = s.heard; said = s.said } }) e

    runs-next : o < total → k + 1 < budget → Runs total (tk (after h) (o + span) (k + 1))
    runs-next more left =
        let e = goes per stream total period budget h o k room more left in
        subst (λ (s : Step). Runs total s.track) e (runs_on per total (tk h o k) _ (completion h 0x8000) (omega arith) r (ap (λ (s : Step). s.said) e))

  -- the claim of a loop, from a place on; f is enough for the periods that are left
  abbrev Claim : ℕ → Type 0
  Claim fuel = (f h o k : ℕ) (slots : List Slot) (d : Device) → Plays d stream → Runs total (tk h o k) → total ≤ o + f → length (spans f period total o h) < fuel → k + fuel ≤ budget
      → Ends (length (spans f period total o h) + 1) (played_by d stream (total - o)) (loop (λ x _. turn_at frames x) fuel (desk h o k slots d) [])

  -- what a turn leaves, and then the loop
  abbrev Then : ℕ → ℕ → Device → Told Desk → Type 0
  Then fuel n e t = Ends n e (onward t.line.said t.line t.left (loop (λ x _. turn_at frames x) fuel t.left []))

  one_more : (fuel : ℕ) → Claim fuel → (f h o k : ℕ) (slots : List Slot) (d : Device) → Plays d stream → Runs total (tk h o k) → total ≤ o + f → length (spans f period total o h) < suc fuel
      → k + suc fuel ≤ budget → Dec (o < total) → Ends (length (spans f period total o h) + 1) (played_by d stream (total - o)) (loop (λ x _. turn_at frames x) (suc fuel) (desk h o k slots d) [])
  unfolding loop_of
  one_more fuel claim zero h o k slots d p r enough few left (yes more) = absurd (omega arith)
  one_more fuel claim (suc f) h o k slots d p r enough few left (yes more) =
      let n = span_of period total o in
      let some = r.consistent.paced.some refl in
      let e = ap length (spans-more f period total o h more) in
      let c = claim f (after h) (o + n) (k + 1) (slice_set slots h (record { offset = o; len = n })) (played_by d stream n) (plays-still d stream p n)
      (runs-next h o k slots d p r more (omega arith)) (omega arith) (omega arith) (omega arith) in
      subst (Then fuel (length (spans (suc f) period total o h) + 1) (played_by d stream (total - o)))
      (sym (turn-goes h o k slots d p r more (omega arith)))
      (record { said = c.said; turns = omega (arith, c.turns, e); device = c.device ∙ played-more d stream p n (total - (o + n)) ∙ ap (played_by d stream) (omega arith) })
  one_more fuel claim f h o k slots d p r enough few left (no none) =
      let e = ap length (spans-done f period total o h (omega arith)) in
      subst (Then fuel (length (spans f period total o h) + 1) (played_by d stream (total - o)))
      (sym (turn-stops h o k slots d p r (omega arith)))
      (record { said = refl; turns = omega (arith, e); device = played-none d stream p ∙ ap (played_by d stream) (omega arith) })

  -- THE LAW of the loop
  pub plays-on : (fuel : ℕ) → Claim fuel
  plays-on zero f h o k slots d p r enough few left = absurd (omega arith)
  plays-on (suc fuel) f h o k slots d p r enough few left = one_more fuel (plays-on fuel) f h o k slots d p r enough few left (dec_lt o total)

-- a whole transfer on an idle ring
pub transfer-ends : (r : Ring) (d : Device) (stream period budget : ℕ) (frames : List ℕ) → Idle r → Plays d stream → 0 < period → length (cut period frames) + 1 ≤ budget
    → ((starts r stream period budget frames).said ≡ Going)
    × Ends (length (cut period frames) + 1) (played_by d stream (length frames)) (attended frames budget (starts r stream period budget frames).ring d)
transfer-ends r d stream period budget frames idle p some enough =
    let n = plan-count period frames in
    let f = consistent-facts r.track idle.consistent in
    let small = (mode_small r.track.descriptors f.placed.mode).1 in
    let began = sym (host.goes r.track stream (length frames) period budget f idle.stopped idle.empty some (omega arith)) in
    let b = begins r.track stream (length frames) period budget began in
    let slots = carry r.slots (start_call r.track stream (length frames) period budget).sent in
    let c = plays-on r.track.descriptors stream period budget frames (omega (arith, small)) budget (length frames) 0 0 0 slots d p b.runs (omega arith) (omega arith) (omega arith) in (
      began,
      subst (λ (t : Track). Ends (length (cut period frames) + 1) (played_by d stream (length frames)) (attended frames budget (record { track = t; slots = slots }) d)) (sym b.track)
          (record { said = c.said; turns = c.turns ∙ ap (λ (k : ℕ). k + 1) n; device = c.device ∙ ap (played_by d stream) (omega arith) }),
    )
