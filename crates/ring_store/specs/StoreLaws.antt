-- A store written by place: a track or a slot over a store is the whole ring with that part new.
-- Assumes nothing.
use Rattle.std.specs.Prelude.{◌≡◌, refl, Bool, true, false, List, [], ◌∷◌, ◌++◌, ℕ, suc, ◌+◌, ◌*◌, ◌≤◌, ◌<◌, ltb, length, get_or, set, take, drop, replicate, Some, None}
use Rattle.std.proofs.Common.{sym, ap, ◌∙◌, append_assoc, arith, zero-add, lt-ltb, le-ltb, ltb-true, ltb-false, length-append, length-take-le}
use Rattle.std.proofs.Math.ListN.{get_or-eq_default}
use Rattle.std.proofs.lemmas.List.{get_or-replicate}
use Rattle.std.proofs.lemmas.List.Edits.{sets}
use Rattle.std.proofs.Math.Seq.{set_out}
use Rattle.layout.specs.Bytes.{le, num_at, bytes_at, Bytes}
use Rattle.layout.specs.Rows.{rows_bytes}
use Rattle.layout.specs.LayoutLaws.{length-write, write_read, inside}
use Rattle.layout.specs.StoreLaws.{over, sets-but, sets_then}
use Rattle.layout.specs.ChainLaws.{Got, Stored, got, stored}
use Rattle.layout.specs.RowsLaws.{length-rows, length-rows_bytes, rows-at, rows_bytes-more, rows_split, rows-with, rows_same}
use Rattle.codes.specs.SaysLaws.{picks, skips}
use Rattle.turns.specs.Ring.{blank_slot}
use Rattle.turns.specs.Calls.{carry}
use Rattle.ring_store.specs.Types.{Slot, Track, Ring, Sent}
use Rattle.ring_store.specs.Store.{track_size, slot_size, slots_size, side_place, track_row, track_values, side_row, track_of, track_at, slot_row, slot_bytes, slot_at, ring_of, ring_bytes, track_bytes, side_bytes, ring_size}
use Rattle.ring_store.specs.Private.{track_over, slot_over, sent_over, blank_over}

-- ---- one slot

pub slot-sized : (x : Slot) → length (slot_bytes x) ≡ slot_size
slot-sized x = length-write slot_row (x.offset ∷ x.len ∷ [])

pub slot_same : (o : ℕ) (s : List ℕ) → Bytes s → slot_bytes (slot_at o s) ≡ bytes_at o slot_size s
unfolding slot_at
slot_same o s b = write_read o slot_row s b

-- ---- a part over the whole

-- the ring that a store holds, with another track
abbrev pub with_track : List ℕ → Track → Ring
with_track s t = record { track = t; slots = (ring_of s).slots }

pub slots-long : (s : List ℕ) → length (ring_of s).slots ≡ 32
unfolding ring_of
slots-long s = length-rows slot_at slot_size track_size 32 s

pub length-slots : (slots : List Slot) → length slots ≡ 32 → length (rows_bytes slot_bytes slots) ≡ slots_size
length-slots slots e = length-rows_bytes slot_bytes slot_size slot-sized slots ∙ ap (λ (n : ℕ). n * slot_size) e

-- what stands before the second part of a track
pub length_front : (t : Track) (slots : List Slot) → length slots ≡ 32 → length (track_bytes t ++ rows_bytes slot_bytes slots) ≡ side_place
length_front t slots e = length-append (track_bytes t) (rows_bytes slot_bytes slots) ∙ (λ i. length-write track_row (track_values t) i + length-slots slots e i)

-- THE TRACK ALONE: the slots, written again, are the bytes that stand there
pub track-over : (s : List ℕ) (t : Track) → Bytes s → track_over s t ≡ sets s 0 (ring_bytes (with_track s t))
unfolding ring_of ring_bytes bytes_at le
track-over s t b =
    let rows = rows_bytes slot_bytes (ring_of s).slots in
    ap (λ (l : List ℕ). sets l side_place (side_bytes t))
    (sym (sets-but s 0 slots_size (track_bytes t))
    ∙ ap (λ (l : List ℕ). sets s 0 (track_bytes t ++ l))
    (ap (λ (k : ℕ). bytes_at k slots_size s) (length-write track_row (track_values t)) ∙ sym (rows_same slot_at slot_bytes slot_size slot_same track_size 32 s b)))
    ∙ sets_then s 0 side_place (track_bytes t ++ rows) (side_bytes t) (sym (zero-add (length (track_bytes t ++ rows)) ∙ length_front t (ring_of s).slots (slots-long s)))
    ∙ ap (sets s 0) (append_assoc (track_bytes t) rows (side_bytes t))

-- the middle of a part, on its own
spread : (t a v b z : List ℕ) → t ++ ((a ++ (v ++ b)) ++ z) ≡ (t ++ a) ++ (v ++ (b ++ z))
spread t a v b z = ap (λ (l : List ℕ). t ++ l) (append_assoc a (v ++ b) z ∙ ap (λ (l : List ℕ). a ++ l) (append_assoc v b z)) ∙ sym (append_assoc t a (v ++ (b ++ z)))

-- ONE SLOT over an encoded ring
pub slot-over : (s : List ℕ) (r : Ring) (i : ℕ) (x : Slot) → i < length r.slots → sets (sets s 0 (ring_bytes r)) (track_size + i * slot_size) (slot_bytes x) ≡ sets s 0 (ring_bytes (record { track = r.track; slots = set r.slots i x }))
unfolding ring_bytes
slot-over s r i x h =
    let t = track_bytes r.track in
    let a = rows_bytes slot_bytes (take i r.slots) in
    let b = rows_bytes slot_bytes (drop (suc i) r.slots) in
    let z = side_bytes r.track in
    let old = slot_bytes (get_or r.slots i blank_slot) in
    let n : length (t ++ a) ≡ track_size + i * slot_size =
    length-append t a ∙ (λ k. length-write track_row (track_values r.track) k + (length-rows_bytes slot_bytes slot_size slot-sized (take i r.slots) ∙ ap (λ (m : ℕ). m * slot_size) (length-take-le i r.slots (omega arith))) k) in
    ap (λ (l : List ℕ). sets (sets s 0 l) (track_size + i * slot_size) (slot_bytes x)) (ap (λ (l : List ℕ). t ++ (l ++ z)) (rows_split slot_bytes r.slots i blank_slot h) ∙ spread t a old b z)
    ∙ over s (t ++ a) old (slot_bytes x) (b ++ z) (track_size + i * slot_size) n (slot-sized (get_or r.slots i blank_slot) ∙ sym (slot-sized x))
    ∙ ap (sets s 0) (sym (spread t a (slot_bytes x) b z) ∙ ap (λ (l : List ℕ). t ++ (l ++ z)) (sym (rows-with slot_bytes r.slots i x h)))

slot-sent : (s : List ℕ) (t : Track) (slot : ℕ) (x : Slot) → Bytes s → (small : Bool) → ltb slot 32 ≡ small → slot_over (track_over s t) slot x ≡ sets s 0 (ring_bytes (record { track = t; slots = set (ring_of s).slots slot x }))
slot-sent s t slot x b true e =
    let h : slot < 32 = ltb-true slot 32 e in
    picks _ _ _ e
    ∙ ap (λ (l : List ℕ). sets l (track_size + slot * slot_size) (slot_bytes x)) (track-over s t b)
    ∙ slot-over s (with_track s t) slot x (rw (slots-long s) h)
slot-sent s t slot x b false e =
    let h : 32 ≤ slot = ltb-false slot 32 e in
    skips _ _ _ e
    ∙ track-over s t b
    ∙ ap (λ (l : List Slot). sets s 0 (ring_bytes (record { track = t; slots = l }))) (sym (set_out (ring_of s).slots slot x (rw (slots-long s) h)))

-- WHAT A STEP LEAVES: its track, and then what it sent, over a store
pub sent-over : (s : List ℕ) (t : Track) (sent : Sent) → Bytes s → sent_over (track_over s t) sent ≡ sets s 0 (ring_bytes (record { track = t; slots = carry (ring_of s).slots sent }))
sent-over s t None b = track-over s t b
sent-over s t (Some p) b = slot-sent s t p.slot (record { offset = p.offset; len = p.len }) b (ltb p.slot 32) refl

-- ---- for the code

-- a track by its reads
pub track-got : (s vs ws : List ℕ) (t : Track) → t ≡ track_of vs ws → Got s 0 track_row vs → Got s side_place side_row ws → t ≡ track_at s
unfolding track_at
track-got s vs ws t e g h = e ∙ (λ i. track_of (got s 0 track_row vs g i) (got s side_place side_row ws h i))

-- a track is read in the store's own bytes alone
pub track-front : (s : List ℕ) → track_at (take ring_size s) ≡ track_at s
unfolding track_at
track-front s = λ i. track_of (inside 0 ring_size 0 track_row s (omega arith) i) (inside side_place ring_size 0 side_row s (omega arith) i)

-- a slot by its two stores
pub slot-stored : (n s : List ℕ) (slot : ℕ) (x : Slot) → slot < 32 → Stored n s (track_size + slot * slot_size) slot_row (x.offset ∷ x.len ∷ []) → n ≡ slot_over s slot x
slot-stored n s slot x h p = stored n s (track_size + slot * slot_size) slot_row (x.offset ∷ x.len ∷ []) p ∙ sym (picks _ _ _ (lt-ltb slot 32 h))

pub slot-none : (s : List ℕ) (slot : ℕ) (x : Slot) → 32 ≤ slot → s ≡ slot_over s slot x
slot-none s slot x h = sym (skips _ _ _ (le-ltb slot 32 h))

-- and by its two reads
pub slot-got : (s : List ℕ) (slot : ℕ) {offset len : ℕ} → slot < 32 → offset ≡ num_at (track_size + slot * slot_size) 8 s → len ≡ num_at (track_size + slot * slot_size + 8) 8 s → record { offset = offset; len = len } ≡ get_or (ring_of s).slots slot blank_slot
unfolding ring_of slot_at
slot-got s slot h p q = (λ i. record { offset = p i; len = q i }) ∙ sym (rows-at slot_at slot_size track_size 32 slot s blank_slot h)

pub slot-out : (s : List ℕ) (slot : ℕ) → 32 ≤ slot → blank_slot ≡ get_or (ring_of s).slots slot blank_slot
slot-out s slot h = sym (get_or-eq_default (ring_of s).slots blank_slot (rw (slots-long s) h))

-- the slots made blank, one after the other
abbrev pub blanks : List Slot
blanks = replicate 32 blank_slot

pub blank_none : (s : List ℕ) → s ≡ sets s track_size (rows_bytes slot_bytes (take 0 blanks))
unfolding rows_bytes
blank_none s = refl

pub blank-more : (s s₁ s₂ : List ℕ) (i : ℕ) → i < 32 → s₁ ≡ sets s track_size (rows_bytes slot_bytes (take i blanks)) → s₂ ≡ slot_over s₁ i blank_slot → s₂ ≡ sets s track_size (rows_bytes slot_bytes (take (i + 1) blanks))
blank-more s s₁ s₂ i h e p =
    rows_bytes-more slot_bytes slot_size slot-sized s track_size i blanks blank_slot s₁ s₂ h e
    (p ∙ picks _ _ _ (lt-ltb i 32 h) ∙ ap (λ (x : Slot). sets s₁ (track_size + i * slot_size) (slot_bytes x)) (sym (get_or-replicate 32 i blank_slot blank_slot h)))

pub blank-all : (s s₁ : List ℕ) (i : ℕ) → i ≡ 32 → s₁ ≡ sets s track_size (rows_bytes slot_bytes (take i blanks)) → s₁ ≡ blank_over s
blank-all s s₁ i z e = e ∙ ap (λ (n : ℕ). sets s track_size (rows_bytes slot_bytes (take n blanks))) z

-- a new ring: its track, and then every slot blank
pub new-over : (s : List ℕ) (t : Track) → Bytes s → blank_over (track_over s t) ≡ sets s 0 (ring_bytes (record { track = t; slots = blanks }))
unfolding ring_bytes le
new-over s t b =
    ap blank_over (track-over s t b)
    ∙ over s (track_bytes t) (rows_bytes slot_bytes (ring_of s).slots) (rows_bytes slot_bytes blanks) (side_bytes t) track_size (length-write track_row (track_values t))
    (length-slots (ring_of s).slots (slots-long s) ∙ sym (length-slots blanks refl))
