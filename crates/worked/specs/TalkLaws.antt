-- One exchange of a conversation, whatever is asked; and the query of a table, one law for all three.
-- Assumes nothing.
use Rattle.std.specs.Prelude.{◌≡◌, ℕ, ◌+◌, ◌*◌, ◌<◌, ◌≤◌, true, not, List, [], ◌∷◌, ◌++◌, length, take, drop, ◌==◌, nat_le, slice_index, slice_index_or, refl, None, Ok}
use Rattle.std.proofs.Common.{sym, ◌∙◌, append-nil, append_assoc, arith, lit<, length-append, length-drop, take_at, le-leb, eq-eqb}
use Rattle.std.proofs.Math.Path.{ap}
use Rattle.std.proofs.Math.Seq.{take-append_seam}
use Rattle.layout.specs.Bytes.{le, num_at}
use Rattle.layout.specs.Layout.{size, write, read_at, read, Fit}
use Rattle.layout.specs.Rows.{rows_at, rows_bytes}
use Rattle.layout.specs.LayoutLaws.{length-write, read-write}
use Rattle.layout.specs.RowsLaws.{length-rows}
use Rattle.codes.specs.SaysLaws.{picks, passes}
use Rattle.codes.specs.Requests.{request_code}
use Rattle.codes.specs.declared.requests.RequestCode.{RequestCode}
use Rattle.records.specs.Records.{query}
use Rattle.tables.specs.Tables.{judged, is_good, refilled}
use Rattle.tables.specs.TablesLaws.{good-fits}
use Rattle.tables.specs.WrittenLaws.{in-full}
use Rattle.turns.specs.Calls.{idle_of}
use Rattle.turns.specs.Consistent as ring
use Rattle.sound_core.specs.Consistent.{call_ok, consistent_of}
use Rattle.sound_core.specs.Plan.{query_of, is_idle, set_up_of, begin_of, answer_by, answer_of, verdict_by}
use Rattle.sound_core.specs.Reply.{request_bytes}
use Rattle.sound_core.specs.declared.reply.Reply.TheVariants as reply
use Rattle.exchange.specs.ConsistentLaws.{both_of}
use Rattle.exchange.specs.Feed.{paged}
use Rattle.exchange.specs.PlanLaws.{long-verdict}
use Rattle.exchange.specs.Tables.{look_of, pending_look}
use Rattle.exchange.specs.Exchange.{call_of, feed_of}
use Rattle.model.specs.Device.{within_of}
use Rattle.model.specs.Control.{Outcome, Given, laid, rows_in, outcome_of, control_of}
use Rattle.model.specs.ModelLaws.{Answers, control-answers}
use Rattle.worked.specs.Types.{Verdict, Track, Call, Idle, Request, Plan, Sound, StreamList, Device}
use Rattle.worked.specs.Talk.{Talk, talk_of, fed_with, relay}

-- bytes over the front of others
pub length-laid : (b l : List ℕ) → length b ≤ length l → length (laid b l) ≡ length l
length-laid b l h = simp (length-append, length-drop) (omega arith)

-- a query leaves the length of the message buffer
pub asked-length : (code n size : ℕ) (m : List ℕ) → 24 ≤ length m → length (laid (request_bytes (query_of code n size)) m) ≡ length m
asked-length code n size m h = length-laid (write query (code ∷ 0 ∷ n ∷ size ∷ [])) m (omega (arith, length-write query (code ∷ 0 ∷ n ∷ size ∷ [])))

-- the driver has sent a request
abbrev pub asking : Sound → Request → StreamList → Device → List ℕ → List ℕ → Talk
asking s q l d page m = record { driver = record { sound = s; reply = Ok (reply.Send (length (request_bytes q))); streams = l }; device = d; page = page; message = laid (request_bytes q) m }

-- the driver has made a plan of a page
abbrev pub after : Plan → Sound → Device → List ℕ → List ℕ → Talk
after p s d page m = talk_of p s page d page m

-- a page of the right length, in a consistent state
pub feeds : (s : Sound) (page : List ℕ) (n : ℕ) → length page ≡ 4096 → 24 ≤ n → consistent_of s.core ≡ true
    → feed_of None s page n ≡ answer_by s.core.stage s.core (verdict_by None s.core.stage s.core.counts page) (pending_look s.core.stage s)
unfolding feed_of answer_of
feeds s page n l m e =
    let long = both_of (length page == 4096) (nat_le 24 n) (eq-eqb _ _ l) (le-leb _ _ m) in
    sym (passes _ _ _ long (passes _ _ _ (ap not (long-verdict s (paged None page n) long).1) (passes _ _ _ e refl)))

-- THE LAW OF AN EXCHANGE: the device answers with bytes b, and the driver goes on as it decides on the page that begins with them
module _ (s : Sound) (q : Request) (l : StreamList) (d e : Device) (page m b : List ℕ) (w : within_of d.counts ≡ true) (whole : length page ≡ 4096)
    (long : 24 ≤ length (laid (request_bytes q) m)) (out : outcome_of (request_bytes q) d ≡ record { device = e; bytes = b }) (small : length b ≤ 4096) (ok : consistent_of s.core ≡ true) where
  pub relays : relay (asking s q l d page m)
      ≡ after (answer_by s.core.stage s.core (verdict_by None s.core.stage s.core.counts (laid b page)) (pending_look s.core.stage s)) s e (laid b page) (laid (request_bytes q) m)
  unfolding relay
  relays =
      let r = request_bytes q in
      let n = laid r m in
      let a = control-answers d r page whole w in
      let device : (control_of d r page).answered.device ≡ e = ap (λ (g : Given). g.answered.device) a ∙ ap (λ (o : Outcome). o.device) out in
      let told : (control_of d r page).lent ≡ laid b page = ap (λ (g : Given). g.lent) a ∙ ap (λ (o : Outcome). laid o.bytes page) out in
      ap (λ (x : List ℕ). fed_with x (asking s q l d page m)) (take-append_seam r (drop (length r) m))
      ∙ (λ i. after (feed_of None s (told i) (length n)) s (device i) (told i) n)
      ∙ ap (λ (p : Plan). after p s e (laid b page) n) (feeds s (laid b page) (length n) (length-laid b page (rw whole small) ∙ whole) long ok)

-- ---- a page that begins with a status: ok, and then anything

header : (r : List ℕ) → num_at 0 4 (le 4 0x8000 ++ r) ≡ 0x8000
header r =
    ap (λ (k : List ℕ). slice_index k 0)
    (ap (λ (b : List ℕ). read (4 ∷ []) (b ++ r)) (sym (append-nil (le 4 0x8000))) ∙ read-write (4 ∷ []) (0x8000 ∷ []) r (lit< tt, tt))

pub good-page : (r : List ℕ) (n size : ℕ) → length (le 4 0x8000 ++ r) ≡ 4096 → 4 + n * size ≤ 4096 → judged None (le 4 0x8000 ++ r) n size ≡ Ok tt
good-page r n size l h = in-full (le 4 0x8000 ++ r) n size ∙ sym (passes _ _ _ (eq-eqb _ _ l) (passes _ _ _ (eq-eqb _ _ (header r)) (passes _ _ _ (le-leb _ _ h) refl)))

-- a page that answers a query: it is whole and good, and n records are read from it
pub record Told {A : Type 0} (f : ℕ → List ℕ → A) (size n : ℕ) (rows : List A) (page : List ℕ) : Type 0 where
  pub whole : length page ≡ 4096
  pub good : judged None page n size ≡ Ok tt
  pub same : (old : List A) → take n (refilled f size page n old) ≡ take n rows

-- THE LAW OF A QUERY, over the table: so is the page that the device answers in, and the records are those of the device
module _ {A : Type 0} {c : RequestCode} {ws : List ℕ} {values : A → List ℕ} {of : List ℕ → A} {n : ℕ} {rows : List A} {d : Device} (a : Answers c ws values of n rows d)
    (page : List ℕ) (whole : length page ≡ 4096) where
  abbrev bytes : List ℕ
  bytes = rows_in (λ (x : A). write ws (values x)) 0 n rows

  small : length bytes ≤ 4096
  small = omega (arith, a.long, a.fits)

  told-whole : length (laid bytes page) ≡ 4096
  told-whole = length-laid bytes page (omega (arith, small)) ∙ whole

  told-good : judged None (laid bytes page) n (size ws) ≡ Ok tt
  told-good =
      let r = rows_bytes (λ (x : A). write ws (values x)) (take n (drop 0 rows)) in
      let e : laid bytes page ≡ le 4 0x8000 ++ (r ++ drop (length bytes) page) = append_assoc (le 4 0x8000) r (drop (length bytes) page) in
      ap (λ (p : List ℕ). judged None p n (size ws)) e ∙ good-page (r ++ drop (length bytes) page) n (size ws) (sym (ap length e) ∙ told-whole) a.fits

  pub told : (z : A) → ((i : ℕ) → i < n → Fit ws (values (slice_index_or rows i z))) → Told (λ (o : ℕ) (s : List ℕ). of (read_at o ws s)) (size ws) n rows (laid bytes page)
  told z fit =
      let one : ℕ → List ℕ → A = λ o s. of (read_at o ws s) in
      record {
        whole = told-whole;
        good = told-good;
        same = λ old.
            ap (take n) (picks _ _ _ (good-fits None (laid bytes page) n (size ws) (ap is_good told-good)))
            ∙ take_at (rows_at one (size ws) 4 n (laid bytes page)) (drop n old) n (length-rows one (size ws) 4 n (laid bytes page))
            ∙ a.back z (drop (length bytes) page) fit;
      }

  -- the exchange of a query, in a state that waits for its answer
  pub queried : (s : Sound) (l : StreamList) (m : List ℕ) → within_of d.counts ≡ true → 24 ≤ length m → consistent_of s.core ≡ true
      → ((p : List ℕ) → verdict_by None s.core.stage s.core.counts p ≡ judged None p n (size ws))
      → let q = query_of (request_code c) n (size ws) in
      relay (asking s q l d page m) ≡ after (answer_by s.core.stage s.core (Ok tt) (pending_look s.core.stage s)) s d (laid bytes page) (laid (request_bytes q) m)
  queried s l m w long ok asked =
      let q = query_of (request_code c) n (size ws) in
      relays s q l d d page m bytes w whole (rw (asked-length (request_code c) n (size ws) m long) long) a.answer small ok
      ∙ ap (λ (v : Verdict). after (answer_by s.core.stage s.core v (pending_look s.core.stage s)) s d (laid bytes page) (laid (request_bytes q) m)) (asked (laid bytes page) ∙ told-good)

-- ---- a call on a state with no exchange open, and what is lent as it should be

pub calls : (s : Sound) (t : Track) (call : Call) (n : ℕ) → consistent_of s.core ≡ true → s.core.stage ≡ Idle → ring.consistent_of t ≡ true → idle_of t ≡ true → call_ok call ≡ true → 24 ≤ n
    → call_of s t call n ≡ set_up_of s.core call (look_of s call)
unfolding call_of begin_of
calls s t call n e g r i fine long =
    sym
    (passes _ _ _ (le-leb 24 n long)
    (passes _ _ _ (both_of (consistent_of s.core) (ring.consistent_of t) e r) (passes _ _ _ (both_of (is_idle s.core.stage) (idle_of t) (ap is_idle g) i) (passes _ _ _ fine refl))))
