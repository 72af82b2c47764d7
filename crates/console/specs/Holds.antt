-- The start of a transfer through the C entry: the two stores, read again, hold the state and the ring of the start by value.
-- Assumes nothing.
use Rattle.std.specs.Prelude.{◌≡◌, ℕ, ◌+◌, ◌*◌, ◌^◌, ◌<◌, ◌≤◌, Bool, true, false, List, length, nat_le, Result, Ok, Err}
use Rattle.std.proofs.Math.Path.{refl, ap}
use Rattle.std.proofs.Common.{sym, ◌∙◌, subst, arith, lit<, le-leb, leb-true, leb-false}
use Rattle.layout.specs.Bytes.{Bytes}
use Rattle.layout.specs.Lent.{Made}
use Rattle.layout.specs.BytesLaws.{num_at-below}
use Rattle.codes.specs.SaysLaws.{passes}
use Rattle.turns.specs.Calls.{start_call, start_traced, started_of}
use Rattle.turns.specs.Capture.{capture_start}
use Rattle.turns.specs.declared.ring.Step.{Step}
use Rattle.exchange.specs.State.{params_of}
use Rattle.exchange.specs.ConsistentLaws.{both_of}
use Rattle.exchange.specs.Xfer.{waiting_as, start_step, start_of, start_traced_of, capture_of}
use Rattle.exchange.specs.XferLaws.{start-by, traced-by, capture-by}
use Rattle.sound_core.specs.declared.state.Params.{Params}
use Rattle.exchange.specs.declared.xfer.XferStep.{XferStep}
use Rattle.ring_store.specs.Store.{ring_size}
use Rattle.state_store.specs.Places.{state_size, params_place}
use Rattle.ring_store.specs.Store.{track_at, ring_of}
use Rattle.ring_store.specs.Calls.{left_by, start_in, start_traced_in, capture_start_in}
use Rattle.ring_store.specs.Holds.{start-holds, traced-start-holds, capture-start-holds}
use Rattle.state_store.specs.Store.{params_at, sound_of}
use Rattle.state_store.specs.Calls.{open_as, open_in, open_capture_in}
use Rattle.state_store.specs.PlaceLaws.{params_in, params-out}
use Rattle.state_store.specs.Holds.{open-holds, open-traced-holds, open-capture-holds}
use Rattle.console.specs.Entries.{Begun, begun, entry_of, start_entry, start_traced_entry, capture_entry}
use Rattle.console.specs.EntryLaws.{start_opening, start_by, start_is, plays, writes, records}

-- a period that a store holds fits 4 bytes
period-below : (s : List ℕ) (i : ℕ) → Bytes s → (params_of (sound_of s) i).period < 256 ^ 4
unfolding params_at
period-below s i b = by (nat_le 127 i) refl
  where
    by : (t : Bool) → nat_le 127 i ≡ t → (params_of (sound_of s) i).period < 256 ^ 4
    by true e = subst (λ (p : Params). p.period < 256 ^ 4) (sym (params-out s i (leb-true 127 i e))) (lit< tt)
    by false e =
        subst (λ (p : Params). p.period < 256 ^ 4) (params_in s i (params_at (params_place + i * 16) s) (omega (arith, leb-false 127 i e)) refl) (num_at-below (params_place + i * 16 + 8) 4 s b)

module _ (s ring m : List ℕ) (b : Bytes s) (c : Bytes ring) (h : state_size ≤ length s) (k : ring_size ≤ length ring) (stream : ℕ) where
  -- the stores are long enough
  entry-of : (x : XferStep) → entry_of s ring stream m x ≡ begun s ring stream m x
  entry-of x = sym (passes _ _ _ (both_of (nat_le state_size (length s)) (nat_le ring_size (length ring)) (le-leb state_size (length s) h) (le-leb ring_size (length ring) k)) refl)

  abbrev Holds : XferStep → Type 0
  Holds x = ring_of (begun s ring stream m x).ring ≡ x.ring

  period-fits : (params_of (sound_of s) stream).period < 256 ^ 8
  period-fits = omega (arith, period-below s stream b)

  opening-state : (capture : Bool) (begin : ℕ → Step) (o : Result ℕ ℕ) (st after : List ℕ) → (start_opening capture begin s ring stream o st after).state ≡ st
  opening-state capture begin (Err n) st after = refl
  opening-state capture begin (Ok period) st after = refl

  -- THE STATE is what was opened
  state-of : (capture : Bool) (begin : ℕ → Step) (e : Begun) → start_by capture begin s ring stream (open_as capture (waiting_as capture stream) s (track_at ring) stream m) ≡ e
      → sound_of e.state ≡ sound_of (open_as capture (waiting_as capture stream) s (track_at ring) stream m).state
  state-of capture begin e p =
      let o = open_as capture (waiting_as capture stream) s (track_at ring) stream m in
      ap (λ (x : Begun). sound_of x.state) (sym p) ∙ ap sound_of (opening-state capture begin o.opening o.state o.message)

  module _ (len budget : ℕ) where
    pub entry-is : start_entry s ring stream len budget m ≡ begun s ring stream m (start_of (sound_of s) (ring_of ring) stream len budget (length m))
    unfolding start_entry
    entry-is = entry-of (start_of (sound_of s) (ring_of ring) stream len budget (length m))

    module _ (p : stream < 256 ^ 4) (q : len < 256 ^ 8) (r : budget < 256 ^ 8) where
      -- where a transfer begins, the ring's own start
      goes : Holds (start_step (sound_of s) (ring_of ring) (started_of (ring_of ring) (start_call (ring_of ring).track stream len (params_of (sound_of s) stream).period budget)))
      unfolding ring_of start_in
      goes =
          let period = (params_of (sound_of s) stream).period in
          let own : left_by ring (started_of (ring_of ring) (start_call (track_at ring) stream len period budget)) ≡ start_in ring stream len period budget = passes _ _ _ (le-leb ring_size (length ring) k) refl in
          ap (λ (l : Made). ring_of l.store) own ∙ start-holds ring stream len period budget c k p q period-fits r

      -- THE RING THAT THE ENTRY LEAVES IN ITS STORE is the one that the start by value leaves
      pub start-entry-holds : ring_of (start_entry s ring stream len budget m).ring ≡ (start_of (sound_of s) (ring_of ring) stream len budget (length m)).ring
      start-entry-holds = ap (λ (x : Begun). ring_of x.ring) entry-is ∙ start-by Holds (sound_of s) (ring_of ring) stream len budget (length m) (λ _. refl) (λ _ _ _. refl) goes

    pub start-entry-state-holds : stream < 256 ^ 4 → sound_of (start_entry s ring stream len budget m).state ≡ (start_of (sound_of s) (ring_of ring) stream len budget (length m)).sound
    unfolding ring_of open_in start_entry start_of
    start-entry-state-holds p =
        state-of false (plays s ring stream len budget m) (start_entry s ring stream len budget m) (start_is false (plays s ring stream len budget m) s ring stream m b (le-leb ring_size (length ring) k))
        ∙ open-holds s m b h (ring_of ring) stream p len budget

    -- the same of one that writes a trace
    module _ (lent : ℕ) where
      pub traced-entry-is : start_traced_entry s ring stream len budget lent m ≡ begun s ring stream m (start_traced_of (sound_of s) (ring_of ring) stream len budget lent (length m))
      unfolding start_traced_entry
      traced-entry-is = entry-of (start_traced_of (sound_of s) (ring_of ring) stream len budget lent (length m))

      module _ (p : stream < 256 ^ 4) (q : len < 256 ^ 8) (r : budget < 256 ^ 8) (w : lent < 256 ^ 8) where
        traced-goes : Holds (start_step (sound_of s) (ring_of ring) (started_of (ring_of ring) (start_traced (ring_of ring).track stream len (params_of (sound_of s) stream).period budget lent)))
        unfolding ring_of start_traced_in
        traced-goes =
            let period = (params_of (sound_of s) stream).period in
            let own : left_by ring (started_of (ring_of ring) (start_traced (track_at ring) stream len period budget lent)) ≡ start_traced_in ring stream len period budget lent = passes _ _ _ (le-leb ring_size (length ring) k) refl in
            ap (λ (l : Made). ring_of l.store) own ∙ traced-start-holds ring stream len period budget lent c k p q period-fits r w

        pub traced-entry-holds : ring_of (start_traced_entry s ring stream len budget lent m).ring ≡ (start_traced_of (sound_of s) (ring_of ring) stream len budget lent (length m)).ring
        traced-entry-holds = ap (λ (x : Begun). ring_of x.ring) traced-entry-is ∙ traced-by Holds (sound_of s) (ring_of ring) stream len budget lent (length m) (λ _. refl) (λ _ _ _. refl) (λ _. traced-goes)

      pub traced-entry-state-holds : stream < 256 ^ 4 → sound_of (start_traced_entry s ring stream len budget lent m).state ≡ (start_traced_of (sound_of s) (ring_of ring) stream len budget lent (length m)).sound
      unfolding ring_of open_in start_traced_entry start_traced_of
      traced-entry-state-holds p =
          state-of false (writes s ring stream len budget m lent) (start_traced_entry s ring stream len budget lent m) (start_is false (writes s ring stream len budget m lent) s ring stream m b (le-leb ring_size (length ring) k))
          ∙ open-traced-holds s m b h (ring_of ring) stream p len budget lent

    -- the same of a capture
    module _ (periods : ℕ) where
      pub capture-entry-is : capture_entry s ring stream periods len budget m ≡ begun s ring stream m (capture_of (sound_of s) (ring_of ring) stream periods len budget (length m))
      unfolding capture_entry
      capture-entry-is = entry-of (capture_of (sound_of s) (ring_of ring) stream periods len budget (length m))

      module _ (p : stream < 256 ^ 4) (q : len < 256 ^ 8) (r : budget < 256 ^ 8) where
        capture-goes : Holds (start_step (sound_of s) (ring_of ring) (started_of (ring_of ring) (capture_start (ring_of ring).track stream periods (params_of (sound_of s) stream).period len budget)))
        unfolding ring_of capture_start_in
        capture-goes =
            let period = (params_of (sound_of s) stream).period in
            let own : left_by ring (started_of (ring_of ring) (capture_start (track_at ring) stream periods period len budget)) ≡ capture_start_in ring stream periods period len budget = passes _ _ _ (le-leb ring_size (length ring) k) refl in
            ap (λ (l : Made). ring_of l.store) own ∙ capture-start-holds ring stream periods period len budget c k p period-fits q r

        pub capture-entry-holds : ring_of (capture_entry s ring stream periods len budget m).ring ≡ (capture_of (sound_of s) (ring_of ring) stream periods len budget (length m)).ring
        capture-entry-holds = ap (λ (x : Begun). ring_of x.ring) capture-entry-is ∙ capture-by Holds (sound_of s) (ring_of ring) stream periods len budget (length m) (λ _. refl) (λ _ _ _. refl) (λ _. capture-goes)

      pub capture-entry-state-holds : stream < 256 ^ 4 → sound_of (capture_entry s ring stream periods len budget m).state ≡ (capture_of (sound_of s) (ring_of ring) stream periods len budget (length m)).sound
      unfolding ring_of open_capture_in capture_entry capture_of
      capture-entry-state-holds p =
          state-of true (records s ring stream len budget m periods) (capture_entry s ring stream periods len budget m) (start_is true (records s ring stream len budget m periods) s ring stream m b (le-leb ring_size (length ring) k))
          ∙ open-capture-holds s m b h (ring_of ring) stream p periods len budget
