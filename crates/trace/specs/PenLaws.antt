-- What one turn writes, and its bytes.
-- Assumes nothing.
use Rattle.std.specs.Prelude.{List, [], ◌∷◌, ◌++◌, ◌≡◌, refl, ℕ, ◌+◌, ◌≤◌, ◌<◌, length, Some, None}
use Rattle.std.proofs.Common.{sym, ap, subst, ◌∙◌, arith, add-zero, length-append}
use Rattle.std.proofs.lemmas.List.Edits.{sets}
use Rattle.layout.specs.StoreLaws.{sets_then}
use Rattle.layout.specs.Rows.{rows_bytes}
use Rattle.layout.specs.RowsLaws.{rows_bytes-one, rows_bytes-append}
use Rattle.trace.specs.Field.{bytes_of, trace_bytes, size_of}
use Rattle.trace.specs.ScanLaws.{size-bytes}
use Rattle.trace.specs.Trace.{sent_then, heard_then, said_then}
use Rattle.trace.specs.Private.{SentFits, HeardFits, turn_fields}
use Rattle.trace.specs.Types.{Sent, Heard, Said, Field, freed_slot, sent_period}

sent-append : (sent : Sent) (fs : List Field) → sent_then sent fs ≡ sent_then sent [] ++ fs
sent-append None fs = refl
sent-append (Some p) fs = refl

heard-append : (heard : Heard) (fs : List Field) → heard_then heard fs ≡ heard_then heard [] ++ fs
heard-append None fs = refl
heard-append (Some f) fs = refl

-- the bytes of one field
pub one-bytes : (f : Field) → bytes_of f ≡ trace_bytes (f ∷ [])
one-bytes f = sym (rows_bytes-one bytes_of f)

pub one_size : (f : Field) → size_of f ≡ length (trace_bytes (f ∷ []))
one_size f = sym (size-bytes f) ∙ ap length (one-bytes f)

-- where a turn's bytes stand: three parts, one behind the other
pub turn-bytes : (sent : Sent) (heard : Heard) (said : Said) → trace_bytes (turn_fields sent heard said) ≡ trace_bytes (sent_then sent []) ++ (trace_bytes (heard_then heard []) ++ trace_bytes (said_then said []))
turn-bytes sent heard said =
    ap trace_bytes (sent-append sent (heard_then heard (said_then said [])))
    ∙ rows_bytes-append bytes_of (sent_then sent []) (heard_then heard (said_then said []))
    ∙ ap (λ (l : List ℕ). trace_bytes (sent_then sent []) ++ l) (ap trace_bytes (heard-append heard (said_then said [])) ∙ rows_bytes-append bytes_of (heard_then heard []) (said_then said []))

module _ (sent : Sent) (heard : Heard) (said : Said) where
  pub turn-length : length (trace_bytes (turn_fields sent heard said)) ≡ length (trace_bytes (sent_then sent [])) + (length (trace_bytes (heard_then heard [])) + length (trace_bytes (said_then said [])))
  turn-length =
      ap length (turn-bytes sent heard said)
      ∙ length-append (trace_bytes (sent_then sent [])) (trace_bytes (heard_then heard []) ++ trace_bytes (said_then said []))
      ∙ ap (λ (n : ℕ). length (trace_bytes (sent_then sent [])) + n) (length-append (trace_bytes (heard_then heard [])) (trace_bytes (said_then said [])))

  pub turn-stored : (l m n o : List ℕ) (at a b r : ℕ) → m ≡ sets l at (trace_bytes (sent_then sent [])) → a ≡ at + length (trace_bytes (sent_then sent []))
      → n ≡ sets m a (trace_bytes (heard_then heard [])) → b ≡ a + length (trace_bytes (heard_then heard []))
      → o ≡ sets n b (trace_bytes (said_then said [])) → r ≡ b + length (trace_bytes (said_then said []))
      → (r ≡ at + length (trace_bytes (turn_fields sent heard said))) × (o ≡ sets l at (trace_bytes (turn_fields sent heard said)))
  turn-stored l m n o at a b r me ae ne be oe re =
      let x = trace_bytes (sent_then sent []) in
      let y = trace_bytes (heard_then heard []) in
      let z = trace_bytes (said_then said []) in
      let t = turn-length in (
        omega (arith, ae, be, re, t),
        oe ∙ ap (λ (w : List ℕ). sets w b z) ne ∙ sets_then m a b y z be
            ∙ ap (λ (w : List ℕ). sets w a (y ++ z)) me ∙ sets_then l at a x (y ++ z) ae
            ∙ ap (sets l at) (sym (turn-bytes sent heard said)),
      )

-- ---- from what a part of the pen did to what it was to do

pub put_is : (l n : List ℕ) (at r : ℕ) (f g : Field) → f ≡ g → (r ≡ at + size_of g) × (n ≡ sets l at (bytes_of g)) → (r ≡ at + size_of f) × (n ≡ sets l at (bytes_of f))
put_is l n at r f g e k = subst (λ (h : Field). (r ≡ at + size_of h) × (n ≡ sets l at (bytes_of h))) (sym e) k

pub room-is : (at m : ℕ) (f g : Field) → f ≡ g → at + size_of f ≤ m → at + size_of g ≤ m
room-is at m f g e h = subst (λ (x : Field). at + size_of x ≤ m) e h

pub writes-none : (l : List ℕ) (at : ℕ) (fs : List Field) → fs ≡ [] → (at ≡ at + length (trace_bytes fs)) × (l ≡ sets l at (trace_bytes fs))
unfolding rows_bytes
writes-none l at fs e = subst (λ (x : List Field). (at ≡ at + length (trace_bytes x)) × (l ≡ sets l at (trace_bytes x))) (sym e) (sym (add-zero at), refl)

pub writes_one : (l n : List ℕ) (at r : ℕ) (fs : List Field) (f : Field) → fs ≡ f ∷ [] → (r ≡ at + size_of f) × (n ≡ sets l at (bytes_of f)) → (r ≡ at + length (trace_bytes fs)) × (n ≡ sets l at (trace_bytes fs))
writes_one l n at r fs f e k =
    subst (λ (x : List Field). (r ≡ at + length (trace_bytes x)) × (n ≡ sets l at (trace_bytes x))) (sym e)
    (k.0 ∙ ap (λ (m : ℕ). at + m) (one_size f), k.1 ∙ ap (sets l at) (one-bytes f))

pub room-one : (at m : ℕ) (fs : List Field) (f : Field) → fs ≡ f ∷ [] → at + length (trace_bytes fs) ≤ m → at + size_of f ≤ m
room-one at m fs f e h = let s = one_size f in let n = ap (λ (x : List Field). length (trace_bytes x)) e in omega (arith, h, s, n)

pub sent-fits : (s : Sent) (slot offset len : ℕ) → s ≡ sent_period slot offset len → SentFits s → (slot < 256) × (offset < 4294967296) × (len < 4294967296)
sent-fits s slot offset len e h = subst SentFits e h

pub heard-fits : (s : Heard) (slot status : ℕ) → s ≡ freed_slot slot status → HeardFits s → slot < 256
heard-fits s slot status e h = subst HeardFits e h

module _ (sent : Sent) (heard : Heard) (said : Said) (at m : ℕ) (h : at + length (trace_bytes (turn_fields sent heard said)) ≤ m) where
  pub room-sent : at + length (trace_bytes (sent_then sent [])) ≤ m
  room-sent = let t = turn-length sent heard said in omega (arith, h, t)

  pub room-heard : (a m' : ℕ) → a ≡ at + length (trace_bytes (sent_then sent [])) → m' ≡ m → a + length (trace_bytes (heard_then heard [])) ≤ m'
  room-heard a m' e q = let t = turn-length sent heard said in omega (arith, h, t, e, q)

  pub room-said : (a b m' m'' : ℕ) → a ≡ at + length (trace_bytes (sent_then sent [])) → m' ≡ m → b ≡ a + length (trace_bytes (heard_then heard [])) → m'' ≡ m' → b + length (trace_bytes (said_then said [])) ≤ m''
  room-said a b m' m'' e q f r = let t = turn-length sent heard said in omega (arith, h, t, e, q, f, r)
