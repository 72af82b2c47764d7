-- The laws of a transfer that the model device plays: each turn submits a period and hears it completed, and the last says Ok.
-- Assumes nothing.
use Rattle.std.specs.Prelude.{◌≡◌, ℕ, ◌+◌, ◌%◌, ◌^◌, ◌<◌, ◌≤◌, Bool, true, false, List, [], ◌∷◌, ◌++◌, length, drop, replicate, slice_index, slice_index_or, slice_set, refl, Ok, Err, None}
use Rattle.std.proofs.Math.Path.{sym, ap}
use Rattle.std.proofs.Common.{◌∙◌, mod-lt, mod-eq_of_lt, add_assoc, arith, lit<, length-set, get_or-set_same, set-set, ne_eqb}
use Rattle.std.proofs.Math.Nat.{mod-add-mod}
use Rattle.std.proofs.lemmas.List.{set-get_or}
use Rattle.layout.specs.Bytes.{le, num_at}
use Rattle.layout.specs.LayoutLaws.{read-write}
use Rattle.records.specs.Records.{transfer_status}
use Rattle.turns.specs.Cut.{span_of}
use Rattle.turns.specs.Ring.{after}
use Rattle.turns.specs.Rules.{choose_of, submit, sent_of, comes_to, settle, act, played_of, turn_of, ticked, counted_by, counted_of}
use Rattle.turns.specs.DecisionLaws.{submits, finishes, good}
use Rattle.turns.specs.Calls.{offer_by, offer_as, offer_call}
use Rattle.turns.specs.HostLaws.{Runs, admits}
use Rattle.turns.specs.Types.{Outcome}
use Rattle.turns.specs.declared.rules.Verdict.{Verdict}
use Rattle.turns.specs.declared.rules.Verdict.TheVariants.{Good}
use Rattle.model.specs.Device.{within_of}
use Rattle.model.specs.DeviceLaws.{few-streams}
use Rattle.model.specs.Control.{Given}
use Rattle.model.specs.Transfer.{played_by, status_in, transfer_call}
use Rattle.model.specs.ModelLaws.{transfer-answers, played-ok, played-after}
use Rattle.worked.specs.Types.{Track, Going, Done, Reading, Choice, Submit, Finish, Device, completion, freed_slot, sent_period}

-- ---- the device

-- a device that can play a stream
pub record Plays (d : Device) (stream : ℕ) : Type 0 where
  pub within : within_of d.counts ≡ true
  pub range : stream < d.counts.streams
  pub size : length d.played ≡ 127
  pub count : slice_index_or d.played stream 0 < 2 ^ 64

module _ (d : Device) (stream : ℕ) (p : Plays d stream) where
  inside : stream < length d.played
  inside = let k = few-streams d.counts p.within in let r = p.range in let s = p.size in omega arith

  -- nothing played, and two runs of bytes one after the other
  pub played-none : d ≡ played_by d stream 0
  played-none =
      let x = slice_index_or d.played stream 0 in
      ap (λ (l : List ℕ). record { counts = d.counts; jacks = d.jacks; pcms = d.pcms; maps = d.maps; params = d.params; played = l })
      (sym (set-get_or d.played stream 0) ∙ ap (slice_set d.played stream) (sym (mod-eq_of_lt p.count) ∙ ap (λ (n : ℕ). n % 2 ^ 64) (omega arith)))

  pub played-more : (m n : ℕ) → played_by (played_by d stream m) stream n ≡ played_by d stream (m + n)
  played-more m n =
      let x = slice_index_or d.played stream 0 in
      let y = (x + m) % 2 ^ 64 in
      ap (λ (l : List ℕ). record { counts = d.counts; jacks = d.jacks; pcms = d.pcms; maps = d.maps; params = d.params; played = l })
      (set-set d.played stream y _
      ∙ ap (slice_set d.played stream)
      (ap (λ (k : ℕ). (k + n) % 2 ^ 64) (get_or-set_same d.played stream y 0 inside) ∙ mod-add-mod (x + m) (2 ^ 64) n ∙ ap (λ (k : ℕ). k % 2 ^ 64) (add_assoc x m n)))

  pub plays-still : (n : ℕ) → Plays (played_by d stream n) stream
  plays-still n =
      let y = (slice_index d.played stream + n) % 2 ^ 64 in
      record { within = p.within; range = p.range; size = length-set d.played stream y ∙ p.size; count = rw (get_or-set_same d.played stream y 0 inside) (mod-lt _ (lit< tt)) }

  -- a period that is handed over: 0x8000, and its bytes are counted
  module _ (payload : List ℕ) where
    fits : stream < 256 ^ 4
    fits = let k = few-streams d.counts p.within in let r = p.range in omega arith

    pub status-is : num_at 0 4 (transfer_call d (le 4 stream ++ payload) (replicate 8 0)).lent ≡ 0x8000
    status-is =
        let s = le 4 stream ++ payload in
        ap (λ (g : Given). num_at 0 4 g.lent) (transfer-answers d s (replicate 8 0) (omega arith) p.within)
        ∙ ap (λ (v : ℕ). num_at 0 4 (status_in v (replicate 8 0))) (played-ok d stream payload fits p.range)
        ∙ ap (λ (k : List ℕ). slice_index k 0) (read-write transfer_status (0x8000 ∷ 0 ∷ []) (drop 8 (replicate 8 0)) (lit< tt, (lit< tt, tt)))

    pub device-is : (transfer_call d (le 4 stream ++ payload) (replicate 8 0)).answered.device ≡ played_by d stream (length payload)
    device-is =
        ap (λ (g : Given). g.answered.device) (transfer-answers d (le 4 stream ++ payload) (replicate 8 0) (omega arith) p.within) ∙ played-after d stream payload fits p.range

-- ---- the ring, with nothing in flight

-- h is head and tail, o the offset of the next period, k the turns run, and as many completions were good
abbrev pub track_at : ℕ → ℕ → ℕ → ℕ → ℕ → ℕ → ℕ → ℕ → Track
track_at per stream total period budget h o k =
    record {
      descriptors = per;
      head = h;
      tail = h;
      inflight = 0;
      stream = stream;
      total = total;
      period = period;
      next = o;
      budget = budget;
      turns = k;
      running = true;
      capture = false;
      lent = total;
      kept = 0;
      room = 0;
      written = 0;
      good = k;
    }

module _ (per stream total period budget h o k : ℕ) (room : per ≤ 32) where
  abbrev t : Track
  t = track_at per stream total period budget h o k

  abbrev span : ℕ
  span = span_of period total o

  pub submitted : o < total → choose_of per t ≡ Submit
  submitted more = sym (submits per t (omega arith) more)

  pub finished : total ≤ o → choose_of per t ≡ Finish
  finished none = sym (finishes per t (omega arith) none refl)

  -- a turn with a period left, and one with none
  pub goes : o < total → k + 1 < budget
      → counted_of (turn_of per t (comes_to played_of (completion h 0x8000)) (completion h 0x8000))
      ≡ record { track = track_at per stream total period budget (after h) (o + span) (k + 1); sent = sent_period h o span; heard = freed_slot h 0x8000; said = Going }
  unfolding turn_of counted_of played_of
  goes more left =
      ap (λ (c : Choice). counted_of (act c t (played_of 0x8000) (completion h 0x8000))) (submitted more)
      ∙ ap (λ (v : Verdict). counted_of (settle v (sent_of t) (submit t) h 0x8000)) (sym (good (submit t) h (omega arith) refl))
      ∙ ap (λ (b : Bool). counted_by Going b (settle Good (sent_of t) (submit t) h 0x8000)) (ne_eqb (k + 1) budget (λ e. omega arith))

  pub stops : total ≤ o → (outcome : Outcome) (reading : Reading) → counted_of (turn_of per t outcome reading) ≡ record { track = ticked false t; sent = None; heard = None; said = Done }
  unfolding turn_of counted_of
  stops none outcome reading = ap (λ (c : Choice). counted_of (act c t outcome reading)) (finished none)

  pub offers : Runs total t → offer_call t total ≡ Ok (offer_by (choose_of per t) t)
  unfolding offer_as
  offers r = sym (admits false total t Err (Ok (offer_by (choose_of per t) t)) r)
