-- What the proofs of the entries that put stores together cite.
-- Assumes nothing.
use Rattle.std.specs.Prelude.{◌≡◌, ℕ, Bool, true, false, ◌&&◌, leb, List, [], length, nat_le, Result, Ok, Err}
use Rattle.std.proofs.Math.Path.{refl, sym}
use Rattle.std.proofs.Common.{ap, ◌∙◌}
use Rattle.layout.specs.Bytes.{Bytes}
use Rattle.codes.specs.Says.{guard}
use Rattle.codes.specs.SaysLaws.{passes, stops}
use Rattle.codes.specs.Answers.{refusal_word}
use Rattle.codes.specs.declared.answers.Refusal.{Refusal}
use Rattle.turns.specs.Calls.{start_call, start_traced, started_of}
use Rattle.turns.specs.Capture.{capture_start}
use Rattle.turns.specs.declared.ring.Step.{Step}
use Rattle.turns.specs.declared.ring.Track.{Track}
use Rattle.pending.specs.Table.{none_in}
use Rattle.exchange.specs.Xfer.{xfer_as, waiting_as, refused_step, set_up_step_with, start_step, start_as, start_of, start_traced_of, capture_of}
use Rattle.exchange.specs.StepLaws.{xfer-as-ap}
use Rattle.ring_store.specs.Store.{ring_size}
use Rattle.state_store.specs.Places.{state_size}
use Rattle.layout.specs.Lent.{message_size}
use Rattle.ring_store.specs.Store.{track_at, ring_of}
use Rattle.ring_store.specs.Calls.{left_by, changed}
use Rattle.state_store.specs.Store.{whole, sound_of, state_after}
use Rattle.state_store.specs.RefusedLaws.{state-kept}
use Rattle.state_store.specs.Calls.{Opened, opened, shut, setting_up_with, open_as, open_in, open_capture_in}
use Rattle.exchange.specs.declared.xfer.XferStep.{XferStep}
use Rattle.console.specs.Entries.{Begun, began, begun, entry_of, start_entry, start_traced_entry, capture_entry}

-- ---- the start of a transfer

no_room : (a b : Bool) → b ≡ false → (a && b) ≡ false
no_room true b e = e
no_room false b e = refl

-- a ring that is too short
pub short-ring : (s ring : List ℕ) (stream : ℕ) (m : List ℕ) (x : XferStep) → nat_le ring_size (length ring) ≡ false → began 10 s ring m ≡ entry_of s ring stream m x
short-ring s ring stream m x e = stops _ _ _ (no_room (nat_le state_size (length s)) (nat_le ring_size (length ring)) e) refl

-- a state that is written over the store that holds it
unchanged : (s : List ℕ) → Bytes s → state_after s (sound_of s) ≡ s
unchanged s b = state-kept s [] [] b (whole s) refl

-- of either direction: what the start does to the ring where a period is so long
module _ (capture : Bool) (begin : ℕ → Step) (s ring : List ℕ) (stream : ℕ) where
  -- what an opening comes to, with the ring's own start where a transfer begins
  abbrev pub start_opening : Result ℕ ℕ → List ℕ → List ℕ → Begun
  start_opening (Err n) st m = began n st ring m
  start_opening (Ok period) st m = let l = changed ring (started_of (ring_of ring) (begin period)) in began l.answer st l.store m

  abbrev pub start_by : Opened → Begun
  start_by o = start_opening o.opening o.state o.message

  module _ (m : List ℕ) (bytes : Bytes s) (room : leb ring_size (length ring) ≡ true) where
    -- each end of the checks
    refused_end : (x : Refusal) → start_by (shut s m x) ≡ begun s ring stream m (refused_step (sound_of s) (ring_of ring) x)
    refused_end x = ap (λ (l : List ℕ). began (refusal_word x) l ring m) (sym (unchanged s bytes))

    set-up-end : start_by (setting_up_with s (waiting_as capture stream) m) ≡ begun s ring stream m (set_up_step_with (sound_of s) (ring_of ring) (waiting_as capture stream))
    set-up-end = refl

    open-end : (period : ℕ) → start_by (record { opening = Ok period; state = s; message = m }) ≡ begun s ring stream m (start_step (sound_of s) (ring_of ring) (started_of (ring_of ring) (begin period)))
    open-end period =
        let u = started_of (ring_of ring) (begin period) in
        let p : changed ring u ≡ left_by ring u = sym (passes _ _ _ room refl) in
        λ i. began (p i).answer (sym (unchanged s bytes) i) (p i).store m

    ends : (a b : Bool)
        → start_by (xfer_as capture (a && b) (none_in (sound_of s).pending) (sound_of s) (track_at ring) stream (shut s m) (setting_up_with s (waiting_as capture stream) m) (λ period. record { opening = Ok period; state = s; message = m }))
        ≡ guard (a && nat_le ring_size (length ring)) (began 10 s ring m)
        (begun s ring stream m (xfer_as capture b (none_in (sound_of s).pending) (sound_of s) (track_at ring) stream (refused_step (sound_of s) (ring_of ring)) (set_up_step_with (sound_of s) (ring_of ring) (waiting_as capture stream)) (λ period. start_step (sound_of s) (ring_of ring) (started_of (ring_of ring) (begin period)))))
    unfolding guard
    ends true b =
        passes _ _ _ room
        (xfer-as-ap start_by capture b (none_in (sound_of s).pending) (sound_of s) (track_at ring) stream (shut s m) (setting_up_with s (waiting_as capture stream) m) (λ period. record { opening = Ok period; state = s; message = m })
        ∙ (λ i. xfer_as capture b (none_in (sound_of s).pending) (sound_of s) (track_at ring) stream (λ x. refused_end x i) (set-up-end i) (λ p. open-end p i))
        ∙ sym (xfer-as-ap (begun s ring stream m) capture b (none_in (sound_of s).pending) (sound_of s) (track_at ring) stream (refused_step (sound_of s) (ring_of ring)) (set_up_step_with (sound_of s) (ring_of ring) (waiting_as capture stream)) (λ period. start_step (sound_of s) (ring_of ring) (started_of (ring_of ring) (begin period)))))
    ends false b = refl

    pub start_is : start_by (open_as capture (waiting_as capture stream) s (track_at ring) stream m) ≡ entry_of s ring stream m (start_as capture begin (sound_of s) (ring_of ring) stream (length m))
    unfolding ring_of
    start_is = ends (nat_le state_size (length s)) (nat_le message_size (length m))

    pub started : (o q : Result ℕ ℕ) (st after : List ℕ) (t : Track) → q ≡ o → t ≡ track_at ring → opened q st after ≡ open_as capture (waiting_as capture stream) s t stream m
        → start_opening o st after ≡ entry_of s ring stream m (start_as capture begin (sound_of s) (ring_of ring) stream (length m))
    started o q st after t d e p =
        ap (λ (x : Result ℕ ℕ). start_opening x st after) (sym d) ∙ ap start_by (p ∙ ap (λ (x : Track). open_as capture (waiting_as capture stream) s x stream m) e) ∙ start_is

-- ---- a playback, one that writes a trace, and a capture

module _ (s ring : List ℕ) (stream len budget : ℕ) (m : List ℕ) where
  abbrev pub plays : ℕ → Step
  plays period = start_call (track_at ring) stream len period budget

  pub playback-short : leb ring_size (length ring) ≡ false → began 10 s ring m ≡ start_entry s ring stream len budget m
  unfolding start_entry
  playback-short e = short-ring s ring stream m (start_of (sound_of s) (ring_of ring) stream len budget (length m)) e

  pub playback-started : Bytes s → nat_le ring_size (length ring) ≡ true → (o q : Result ℕ ℕ) (st after : List ℕ) (t : Track) → q ≡ o → t ≡ track_at ring → opened q st after ≡ open_in s t stream m
      → start_opening false plays s ring stream o st after ≡ start_entry s ring stream len budget m
  unfolding open_in start_entry start_of ring_of
  playback-started bytes room o q st after t d e p = started false plays s ring stream m bytes room o q st after t d e p

  module _ (lent : ℕ) where
    abbrev pub writes : ℕ → Step
    writes period = start_traced (track_at ring) stream len period budget lent

    pub traced-short : leb ring_size (length ring) ≡ false → began 10 s ring m ≡ start_traced_entry s ring stream len budget lent m
    unfolding start_traced_entry
    traced-short e = short-ring s ring stream m (start_traced_of (sound_of s) (ring_of ring) stream len budget lent (length m)) e

    pub traced-started : Bytes s → nat_le ring_size (length ring) ≡ true → (o q : Result ℕ ℕ) (st after : List ℕ) (t : Track) → q ≡ o → t ≡ track_at ring → opened q st after ≡ open_in s t stream m
        → start_opening false writes s ring stream o st after ≡ start_traced_entry s ring stream len budget lent m
    unfolding open_in start_traced_entry start_traced_of ring_of
    traced-started bytes room o q st after t d e p = started false writes s ring stream m bytes room o q st after t d e p

  module _ (periods : ℕ) where
    abbrev pub records : ℕ → Step
    records period = capture_start (track_at ring) stream periods period len budget

    pub capture-short : leb ring_size (length ring) ≡ false → began 10 s ring m ≡ capture_entry s ring stream periods len budget m
    unfolding capture_entry
    capture-short e = short-ring s ring stream m (capture_of (sound_of s) (ring_of ring) stream periods len budget (length m)) e

    pub capture-started : Bytes s → nat_le ring_size (length ring) ≡ true → (o q : Result ℕ ℕ) (st after : List ℕ) (t : Track) → q ≡ o → t ≡ track_at ring → opened q st after ≡ open_capture_in s t stream m
        → start_opening true records s ring stream o st after ≡ capture_entry s ring stream periods len budget m
    unfolding open_capture_in capture_entry capture_of ring_of
    capture-started bytes room o q st after t d e p = started true records s ring stream m bytes room o q st after t d e p
