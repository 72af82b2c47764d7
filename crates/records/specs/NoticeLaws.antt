-- What an event says, from what its reader and its code say.
-- Assumes nothing.
use Rattle.std.specs.Prelude.{◌≡◌, refl, Bool, false, ◌&&◌, List, [], ◌∷◌, ℕ, eqb, length, get_or}
use Rattle.std.proofs.Common.{sym, ap, ◌∙◌, eq-eqb}
use Rattle.layout.specs.Bytes.{num_at}
use Rattle.layout.specs.Layout.{read}
use Rattle.codes.specs.Says.{says, pick}
use Rattle.codes.specs.SaysLaws.{picks, skips, took, refused}
use Rattle.codes.specs.Codes.{among, code_says}
use Rattle.codes.specs.Events.{event_codes, event_codes_of}
use Rattle.codes.specs.EventsLaws.{control-mode}
use Rattle.records.specs.Records.{event}
use Rattle.records.specs.Slice.{read_says}
use Rattle.records.specs.SliceLaws.{read_is}
use Rattle.records.specs.Notice.{ctl_event, event_row, notice_says, notice_says_of}

module _ (controls : Bool) (s : List ℕ) (n : ℕ) (h : length s ≡ 8) (e : n ≡ num_at 0 4 s) where
  -- an event of 8 bytes, by its code
  pub says-event : pick (among n (event_codes_of controls)) (says 0 (read (event_row controls n) s)) (says 2 []) ≡ notice_says_of controls s
  says-event =
      ap (λ (m : ℕ). pick (among m (event_codes_of controls)) (says 0 (read (event_row controls m) s)) (says 2 [])) e
      ∙ sym (picks _ _ _ (eq-eqb (length s) 8 h))

  pub unknown-in : says 2 [] ≡ code_says (event_codes_of controls) 2 n → says 2 [] ≡ notice_says_of controls s
  unknown-in q = sym (skips _ _ _ (refused (among n (event_codes_of controls)) 1 (n ∷ []) q)) ∙ says-event

  -- of a layout that is told by a test
  row_by : (t : Bool) (k : ℕ) → (controls && eqb n 0x1200) ≡ t → says 0 (k ∷ []) ≡ code_says (event_codes_of controls) 2 n → says 0 (read (pick t ctl_event event) s) ≡ notice_says_of controls s
  row_by t k o q =
      let r = took (among n (event_codes_of controls)) 1 (n ∷ []) (k ∷ []) q in
      ap (λ (u : Bool). says 0 (read (pick u ctl_event event) s)) (sym o)
      ∙ sym (picks _ _ _ r.0)
      ∙ says-event

  pub control-in : (id mask k : ℕ) → id ≡ num_at 4 2 s → mask ≡ num_at 6 2 s → n ≡ 0x1200 → says 0 (k ∷ []) ≡ code_says (event_codes_of controls) 2 n
      → says 0 (0x1200 ∷ id ∷ mask ∷ []) ≡ notice_says_of controls s
  control-in id mask k f g o q = (λ i. says 0 ((sym o ∙ e) i ∷ f i ∷ g i ∷ [])) ∙ row_by _ k (control-mode controls n k o q) q

  pub known_in : (d k : ℕ) → d ≡ num_at 4 4 s → (controls && eqb n 0x1200) ≡ false → says 0 (k ∷ []) ≡ code_says (event_codes_of controls) 2 n
      → says 0 (k ∷ d ∷ []) ≡ notice_says_of controls s
  known_in d k f o q =
      let r = took (among n (event_codes_of controls)) 1 (n ∷ []) (k ∷ []) q in
      let w : k ≡ n = ap (λ (l : List ℕ). get_or l 0 0) r.1 in
      (λ i. says 0 ((w ∙ e) i ∷ f i ∷ [])) ∙ row_by _ k o q

-- ---- without control elements, from what the event's own reader says

values-are : (s : List ℕ) (n d : ℕ) → says 0 (n ∷ d ∷ []) ≡ read_says event s → (n ≡ num_at 0 4 s) × (d ≡ num_at 4 4 s)
values-are s n d e = let v = (read_is event s (n ∷ d ∷ []) e).1 in (ap (λ (l : List ℕ). get_or l 0 0) v, ap (λ (l : List ℕ). get_or l 1 0) v)

pub unknown-event : (s : List ℕ) (n d : ℕ) → length s ≡ 8 → says 0 (n ∷ d ∷ []) ≡ read_says event s → says 2 [] ≡ code_says event_codes 2 n → says 2 [] ≡ notice_says s
unknown-event s n d h e q = unknown-in false s n h (values-are s n d e).0 q

pub known-event : (s : List ℕ) (n d k : ℕ) → length s ≡ 8 → says 0 (n ∷ d ∷ []) ≡ read_says event s → says 0 (k ∷ []) ≡ code_says event_codes 2 n → says 0 (k ∷ d ∷ []) ≡ notice_says s
known-event s n d k h e q = let v = values-are s n d e in known_in false s n h v.0 d k v.1 refl q
