-- Both round trips between a ring and its store.
-- Assumes nothing.
use Rattle.std.specs.Prelude.{◌≡◌, refl, Bool, true, false, not, ℕ, zero, suc, ◌+◌, ◌≤◌, leb, eqb, get_or, drop}
use Rattle.std.proofs.Common.{sym, ◌∙◌, arith, leb-true, length-append}
use Rattle.std.proofs.Math.Path.{ap}
use mathlib.Core.List.{List, [], ◌∷◌, ◌++◌, append_assoc, append-nil}
use Rattle.std.proofs.Math.ListN.{length}
use Rattle.std.proofs.lemmas.List.Edits.{sets}
use Rattle.std.proofs.Math.Seq.{sets-eq}
use Rattle.layout.specs.Bytes.{le, un, num_at, bytes_at, Bytes}
use Rattle.layout.specs.Layout.{write, read_at, read, Fit}
use Rattle.layout.specs.Rows.{rows_at, rows_bytes}
use Rattle.layout.specs.BytesLaws.{bytes_at-add, bytes_at-append}
use Rattle.layout.specs.LayoutLaws.{length-write, read-write, write_read, read-own}
use Rattle.layout.specs.StoreLaws.{sets_same}
use Rattle.layout.specs.RowsLaws.{rows_same, table-back}
use Rattle.layout.specs.All.{All}
use Rattle.codes.specs.Says.{pick}
use Rattle.codes.specs.SaysLaws.{picks}
use Rattle.turns.specs.ConsistentLaws.{both}
use Rattle.ring_store.specs.Types.{Slot, Track, Ring}
use Rattle.ring_store.specs.Store.{track_size, slot_size, slots_size, side_place, side_size, ring_size, track_row, track_values, side_row, side_values, whole_of, track_of, track_at, slot_row, slot_bytes, slot_at, ring_of, ring_bytes, track_bytes, side_bytes}
use Rattle.ring_store.specs.StoreLaws.{slot-sized, slot_same, length-slots, length_front}

-- of a store: `running` and `capture` are 0 or 1
abbrev pub whole_at : List ℕ → Bool
whole_at s = whole_of (num_at 76 4 s) (num_at 624 4 s)

-- the same as facts
pub record Sound (s : List ℕ) : Type 0 where
  pub running : num_at 76 4 s ≤ 1
  pub capture : num_at 624 4 s ≤ 1

whole-facts : (s : List ℕ) → whole_at s ≡ true → Sound s
whole-facts s h =
    let w = both (leb (num_at 76 4 s) 1) (leb (num_at 624 4 s) 1) h in
    record { running = leb-true _ _ w.0; capture = leb-true _ _ w.1 }

-- ---- STORE, RING, STORE: a whole store is the bytes of the ring that it holds

flag_same : (n : ℕ) → n ≤ 1 → pick (not (eqb n 0)) 1 0 ≡ n
flag_same zero h = refl
flag_same (suc zero) h = refl
flag_same (suc (suc n)) h = absurd (omega arith)

pub track-values : (s : List ℕ) → whole_at s ≡ true → track_values (track_at s) ≡ read_at 0 track_row s
unfolding track_at
track-values s h =
    let w = whole-facts s h in
    λ i. picks (whole_at s) (num_at 0 8 s) 0 h i ∷ num_at 8 8 s ∷ num_at 16 8 s ∷ num_at 24 8 s ∷ num_at 32 8 s ∷ num_at 40 8 s ∷ num_at 48 8 s ∷ num_at 56 8 s ∷ num_at 64 8 s ∷ num_at 72 4 s
    ∷ flag_same (num_at 76 4 s) w.running i ∷ num_at 80 8 s ∷ num_at 88 8 s ∷ []

pub side-values : (s : List ℕ) → whole_at s ≡ true → side_values (track_at s) ≡ read_at side_place side_row s
unfolding track_at
side-values s h = λ i. num_at 608 8 s ∷ num_at 616 8 s ∷ flag_same (num_at 624 4 s) (whole-facts s h).capture i ∷ num_at 628 8 s ∷ []

pub store_same : (s : List ℕ) → Bytes s → whole_at s ≡ true → sets s 0 (ring_bytes (ring_of s)) ≡ s
unfolding ring_of ring_bytes
store_same s b h =
    ap (sets s 0)
    ((λ i. (ap (write track_row) (track-values s h) ∙ write_read 0 track_row s b) i
    ++ (rows_same slot_at slot_bytes slot_size slot_same track_size 32 s b i ++ (ap (write side_row) (side-values s h) ∙ write_read side_place side_row s b) i))
    ∙ sym (bytes_at-add 0 track_size (slots_size + side_size) s ∙ ap (λ (l : List ℕ). bytes_at 0 track_size s ++ l) (bytes_at-add track_size slots_size side_size s)))
    ∙ sets_same s 0 ring_size

-- ---- RING, STORE, RING: a ring of machine numbers and 32 slots, written over a store, is what the store holds

abbrev pub SlotFits : Slot → Type 0
SlotFits x = Fit slot_row (x.offset ∷ x.len ∷ [])

slot-own : (o : ℕ) (s : List ℕ) → slot_at o s ≡ slot_at 0 (bytes_at o slot_size s)
unfolding slot_at
slot-own o s = ap (λ (l : List ℕ). record { offset = get_or l 0 0; len = get_or l 1 0 }) (read-own o slot_row s)

slot-back : (x : Slot) → SlotFits x → slot_at 0 (slot_bytes x) ≡ x
unfolding slot_at
slot-back x f =
    let vs = x.offset ∷ x.len ∷ [] in
    ap (λ (l : List ℕ). record { offset = get_or l 0 0; len = get_or l 1 0 }) (ap (read slot_row) (sym (append-nil (slot_bytes x))) ∙ read-write slot_row vs [] f)

abbrev pub SlotsFit : List Slot → Type 0
SlotsFit = All SlotFits

-- each number fits its width, and there are 32 slots
pub record Fits (r : Ring) : Type 0 where
  pub track : Fit track_row (track_values r.track)
  pub side : Fit side_row (side_values r.track)
  pub slots : SlotsFit r.slots
  pub long : length r.slots ≡ 32

flags-small : (a b : Bool) → whole_of (pick a 1 0) (pick b 1 0) ≡ true
flags-small true true = refl
flags-small true false = refl
flags-small false true = refl
flags-small false false = refl

flag-back : (b : Bool) → not (eqb (pick b 1 0) 0) ≡ b
flag-back true = refl
flag-back false = refl

track-back : (t : Track) → track_of (track_values t) (side_values t) ≡ t
track-back t =
    λ i. record { descriptors = picks _ t.descriptors 0 (flags-small t.running t.capture) i; head = t.head; tail = t.tail; inflight = t.inflight; stream = t.stream; total = t.total; period = t.period; next = t.next; budget = t.budget; turns = t.turns; running = flag-back t.running i; capture = flag-back t.capture i; lent = t.lent; kept = t.kept; room = t.room; written = t.written; good = t.good }

pub length-ring_bytes : (r : Ring) → length r.slots ≡ 32 → length (ring_bytes r) ≡ ring_size
unfolding ring_bytes
length-ring_bytes r e =
    let b = rows_bytes slot_bytes r.slots in
    length-append (track_bytes r.track) (b ++ side_bytes r.track)
    ∙ (λ i. length-write track_row (track_values r.track) i
    + (length-append b (side_bytes r.track) ∙ (λ j. length-slots r.slots e j + length-write side_row (side_values r.track) j)) i)

-- a ring written over a store, and what stands behind its slots
module _ (s : List ℕ) (r : Ring) (e : length r.slots ≡ 32) (h : ring_size ≤ length s) where
  abbrev rest : List ℕ
  rest = drop (0 + length (ring_bytes r)) s

  abbrev ending : List ℕ
  ending = side_bytes r.track ++ rest

  parts : sets s 0 (ring_bytes r) ≡ track_bytes r.track ++ (rows_bytes slot_bytes r.slots ++ ending)
  unfolding ring_bytes
  parts =
      let b = rows_bytes slot_bytes r.slots in
      let z = side_bytes r.track in
      let n : length (ring_bytes r) ≡ ring_size = length-ring_bytes r e in
      sets-eq (ring_bytes r) s 0 (omega arith)
      ∙ append_assoc (track_bytes r.track) (b ++ z) rest
      ∙ ap (λ (l : List ℕ). track_bytes r.track ++ l) (append_assoc b z rest)

  behind : (k n : ℕ) → bytes_at (side_place + k) n (track_bytes r.track ++ (rows_bytes slot_bytes r.slots ++ ending)) ≡ bytes_at k n ending
  behind k n =
      let a = track_bytes r.track in
      let b = rows_bytes slot_bytes r.slots in
      (λ i. bytes_at (sym (length_front r.track r.slots e) i + k) n (sym (append_assoc a b ending) i))
      ∙ bytes_at-append (a ++ b) ending k n

pub store-back : (s : List ℕ) (r : Ring) → Fits r → ring_size ≤ length s → ring_of (sets s 0 (ring_bytes r)) ≡ r
unfolding ring_of ring_bytes track_at
store-back s r f h =
    let t = track_bytes r.track in
    let b = rows_bytes slot_bytes r.slots in
    let z = ending s r f.long h in
    let all = t ++ (b ++ z) in
    let slots : rows_at slot_at slot_size track_size 32 all ≡ r.slots =
    table-back slot_at slot_bytes slot_size slot-own slot-sized SlotFits slot-back t z r.slots track_size 32 (length-write track_row (track_values r.track)) f.long f.slots in
    let front : read_at 0 track_row all ≡ track_values r.track = read-write track_row (track_values r.track) (b ++ z) f.track in
    let side : read_at side_place side_row all ≡ side_values r.track =
    read-own side_place side_row all ∙ ap (read side_row) (behind s r f.long h 0 side_size) ∙ sym (read-own 0 side_row z) ∙ read-write side_row (side_values r.track) (rest s r f.long h) f.side in
    ap ring_of (parts s r f.long h) ∙ (λ i. record { track = ((λ j. track_of (front j) (side j)) ∙ track-back r.track) i; slots = slots i })

-- ---- what was written is whole

flag-read : (lent kept written : ℕ) (b : Bool) (l : List ℕ) → num_at 16 4 (write side_row (lent ∷ kept ∷ pick b 1 0 ∷ written ∷ []) ++ l) ≡ pick b 1 0
unfolding le un bytes_at num_at
flag-read lent kept written true l = refl
flag-read lent kept written false l = refl

whole_by : (t : Track) (a b : Bool) (l : List ℕ) → let s = write track_row (t.descriptors ∷ t.head ∷ t.tail ∷ t.inflight ∷ t.total ∷ t.period ∷ t.next ∷ t.budget ∷ t.turns ∷ t.stream ∷ pick a 1 0 ∷ t.room ∷ t.good ∷ []) ++ l in
    whole_of (num_at 76 4 s) (pick b 1 0) ≡ true
unfolding le un bytes_at num_at
whole_by t true true l = refl
whole_by t true false l = refl
whole_by t false true l = refl
whole_by t false false l = refl

pub whole-written : (s : List ℕ) (r : Ring) → length r.slots ≡ 32 → ring_size ≤ length s → whole_at (sets s 0 (ring_bytes r)) ≡ true
unfolding num_at
whole-written s r e h =
    let t = r.track in
    let l = rows_bytes slot_bytes r.slots ++ ending s r e h in
    let all = track_bytes t ++ l in
    ap whole_at (parts s r e h)
    ∙ ap (λ (n : ℕ). whole_of (num_at 76 4 all) n) (ap un (behind s r e h 16 4) ∙ flag-read t.lent t.kept t.written t.capture (rest s r e h))
    ∙ whole_by t t.running t.capture l
