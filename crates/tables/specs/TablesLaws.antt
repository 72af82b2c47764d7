-- The laws of a page's tables, over the record's size, its reader and the table's length.
-- Assumes nothing.
use Rattle.std.specs.Prelude.{◌≡◌, refl, Bool, true, false, ◌&&◌, List, ℕ, ◌+◌, ◌-◌, ◌*◌, ◌≤◌, leb, eqb, length, take, drop, None, Some, Ok, Err}
use Rattle.std.proofs.Common.{ap, ◌∙◌, arith, eq-eqb, eqb-true, le-leb, leb-true}
use Rattle.std.proofs.lemmas.Bool.{false≢true}
use Rattle.layout.specs.Lent.{page_size}
use Rattle.layout.specs.Bytes.{bytes_at, num_at}
use Rattle.layout.specs.Layout.{size, read_at}
use Rattle.layout.specs.LayoutLaws.{read-own}
use Rattle.codes.specs.Says.{Says, says, guard}
use Rattle.codes.specs.Answers.{says_refusal}
use Rattle.codes.specs.AnswersLaws.{numbered}
use Rattle.codes.specs.declared.answers.Refusal.{Refusal}
use Rattle.records.specs.Records.{jack_info, pcm_info, channel_map, jack_info_of, pcm_info_of, channel_map_of}
use Rattle.records.specs.Slice.{read_says}
use Rattle.records.specs.SliceLaws.{read-inside}
use Rattle.codes.specs.declared.answers.Refusal.TheVariants.{TooMany, BadLength, Short}
use Rattle.tables.specs.Tables.{Written, covers, page_ok, judged, is_good, jack_at, pcm_at, map_at, fits}
use Rattle.tables.specs.declared.verdict.Fault.TheVariants.{Status, Refused}

-- a good verdict: the page is whole, its header ok, and it holds the records, all of them written
pub record Whole (w : Written) (page : List ℕ) (n size : ℕ) : Type 0 where
  pub long : length page ≡ page_size
  pub ok : num_at 0 4 page ≡ 0x8000
  pub fits : 4 + n * size ≤ page_size
  pub written : covers w (4 + n * size) ≡ true

good-by : (l p h f c : Bool) (w : ℕ)
    → is_good (guard l (Err (Refused BadLength)) (guard p (Err (Refused Short)) (guard h (Err (Status w)) (guard f (Err (Refused TooMany)) (guard c (Err (Refused Short)) (Ok tt)))))) ≡ true
    → (l ≡ true) × (p ≡ true) × (h ≡ true) × (f ≡ true) × (c ≡ true)
unfolding guard
good-by true true true true true w e = (refl, refl, refl, refl, refl)
good-by true true true true false w e = absurd (false≢true e)
good-by true true true false c w e = absurd (false≢true e)
good-by true true false f c w e = absurd (false≢true e)
good-by true false h f c w e = absurd (false≢true e)
good-by false p h f c w e = absurd (false≢true e)

both : (a b : Bool) → (a && b) ≡ true → (a ≡ true) × (b ≡ true)
both true b e = (refl, e)
both false b e = absurd (false≢true e)

pub page-long : (w : Written) (page : List ℕ) → page_ok w page ≡ true → length page ≡ page_size
page-long None page e = eqb-true _ _ e
page-long (Some w) page e = eqb-true _ _ (both _ _ e).0

pub good-whole : (w : Written) (page : List ℕ) (n size : ℕ) → is_good (judged w page n size) ≡ true → Whole w page n size
unfolding judged
good-whole w page n size e =
    let b = good-by (page_ok w page) (covers w 4) (eqb (num_at 0 4 page) 0x8000) (leb (4 + n * size) page_size) (covers w (4 + n * size)) (num_at 0 4 page) e in
    record { long = page-long w page b.0; ok = eqb-true _ _ b.2; fits = leb-true _ _ b.3; written = b.4 }

-- a page that is good holds its records
pub good-fits : (w : Written) (page : List ℕ) (n size : ℕ) → is_good (judged w page n size) ≡ true → fits page n size ≡ true
good-fits w page n size e = let g = good-whole w page n size e in rw (eq-eqb _ _ g.long) (le-leb _ _ g.fits)

pub fits-facts : (page : List ℕ) (n size : ℕ) → fits page n size ≡ true → (length page ≡ page_size) × (4 + n * size ≤ page_size)
fits-facts page n size e = let b = both _ _ e in (eqb-true _ _ b.0, leb-true _ _ b.1)

-- record i of a page that holds it: what the reader of `&page[a..]` says
module _ (ws page : List ℕ) (a : ℕ) (h : a + size ws ≤ length page) where
  pub row_is : (vs : List ℕ) → says 0 vs ≡ read_says ws (take (length page - a) (drop a page)) → vs ≡ read_at a ws page
  row_is vs e = ap (λ (s : Says). s.values) (e ∙ read-inside ws page a (length page - a) (omega arith) (omega arith))

  pub row-never : (r : Refusal) → says_refusal r ≡ read_says ws (take (length page - a) (drop a page)) → ⊥
  row-never r e =
      let l : 1 ≤ (says_refusal r).number = (numbered r).least in
      let z : (says_refusal r).number ≡ 0 = ap (λ (s : Says). s.number) (e ∙ read-inside ws page a (length page - a) (omega arith) (omega arith)) in
      omega arith

-- a record is read from its own bytes alone
pub jack-own : (o : ℕ) (s : List ℕ) → jack_at o s ≡ jack_at 0 (bytes_at o (size jack_info) s)
unfolding jack_at
jack-own o s = ap jack_info_of (read-own o jack_info s)

pub pcm-own : (o : ℕ) (s : List ℕ) → pcm_at o s ≡ pcm_at 0 (bytes_at o (size pcm_info) s)
unfolding pcm_at
pcm-own o s = ap pcm_info_of (read-own o pcm_info s)

pub map-own : (o : ℕ) (s : List ℕ) → map_at o s ≡ map_at 0 (bytes_at o (size channel_map) s)
unfolding map_at
map-own o s = ap channel_map_of (read-own o channel_map s)
