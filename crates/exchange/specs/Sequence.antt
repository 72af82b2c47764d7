-- "Over any sequence, what is pending is what was submitted and not finished." And what is pending keeps its bytes in the lent store.
-- Assumes nothing.
use Rattle.std.specs.Prelude.{◌≡◌, ℕ, ◌+◌, ◌<◌, ◌≤◌, Bool, true, false, not, List, [], length, ◌==◌, Some, None, Result, Ok, Err}
use Rattle.std.proofs.Math.Path.{refl, ap}
use Rattle.std.proofs.Common.{sym, ◌∙◌, subst, arith, eqb-true}
use Rattle.std.proofs.lemmas.Bool.{false≢true, eqb-false}
use Rattle.layout.specs.Bytes.{un, bytes_at, num_at}
use Rattle.codes.specs.Says.{pick, guard}
use Rattle.codes.specs.SaysLaws.{guarded-by}
use Rattle.pending.specs.declared.table.Token.{Token as PendingToken}
use Rattle.pending.specs.Table.{free_token, new_pending, waits, marked as mark, pending_at, put, none_in, lowest_in, mark_token, finish_token, finish_of}
use Rattle.pending.specs.TableLaws.{put_other, put-notes, waits-pending}
use Rattle.pending.specs.CallLaws.{mark-by, finish-by}
use Rattle.pending.specs.Places.{size_of, start_of as place_of, message_of, placed_in}
use Rattle.pending.specs.Apart.{places-apart, placed-there, placed-length, length-message}
use Rattle.pending.specs.Count.{none_then}
use Rattle.pending.specs.Ledger.{Entry, took, neither, ends_entry, noted, completes-notes, finishes-notes}
use Rattle.tables.specs.Tables.{judged}
use Rattle.turns.specs.Ring.{direct, new_ring}
use Rattle.turns.specs.Consistent.{placed_of, paced_of}
use Rattle.turns.specs.Types.{completion}
use Rattle.sound_core.specs.Consistent.{consistent_of, stream_ok}
use Rattle.sound_core.specs.Plan.{own_set, begin_of, after_jacks, after_streams, after_maps, after_sent, answer_of}
use Rattle.exchange.specs.Exchange.{call_of, feed_of, fail_of}
use Rattle.exchange.specs.Feed.{plan_of, page_of}
use Rattle.exchange.specs.XferLaws.{start-by, script-by, traced-by, capture-by}
use Rattle.exchange.specs.Submit.{places_of, nb_of, nb_store, mark_by, mark_step, finish_step}
use Rattle.exchange.specs.SubmitLaws.{few-places}
use Rattle.exchange.specs.Submitted.{Given, nb-ends, effect-pending}
use Rattle.exchange.specs.Ends.{after}
use Rattle.exchange.specs.Reached.{Reached, fresh, called, fed, started, scripted, turned, traced, penned, captured, received, drained, submitted, marked, finished, begun, listened, logged, ran, renewed, reached-kept, parameters_set, reached-set}
use Rattle.exchange.specs.declared.nonblocking.NbReply.TheVariants.{Send, Token}
use Rattle.exchange.specs.Types.{Refusal, Ring, Reading, Pending, Judged, Sound, XferStep, NbReply, NbStep, NbEnd}

-- ---- THE LEDGER of one token, from the answers alone: a token that was answered is submitted, and one whose finish answered Ok or 2 is finished

abbrev pub nb_entry : Result NbReply Refusal → Entry
nb_entry (Ok (Send n)) = neither
nb_entry (Ok (Token k)) = took k
nb_entry (Err x) = neither

unfoldable pub held_by : {s : Sound} {r : Ring} → Reached s r → ℕ → Bool
held_by (fresh descriptors mode guard jacks streams maps) k = false
held_by (called call n h) k = held_by h k
held_by (fed f h) k = held_by h k
held_by (started stream len budget n h) k = held_by h k
held_by (scripted stream frames budget script n h) k = held_by h k
held_by (turned len room reading h) k = held_by h k
held_by (traced stream len budget room n h) k = held_by h k
held_by (penned written h) k = held_by h k
held_by (captured stream periods lent budget n h) k = held_by h k
held_by (received len c h) k = held_by h k
held_by (drained reading h) k = held_by h k
held_by (submitted {s} {r} stream n len m h) k = noted (nb_entry (nb_of s r stream n len m).reply) k (held_by h k)
held_by (marked reading h) k = held_by h k
held_by (finished {s} token h) k = noted (ends_entry (finish_step s token).said token) k (held_by h k)
held_by (begun stream len period budget h) k = held_by h k
held_by (listened stream periods period lent budget h) k = held_by h k
held_by (logged stream len period budget room h) k = held_by h k
held_by (ran stream period budget frames script h) k = held_by h k
held_by (renewed descriptors mode h) k = held_by h k

module _ (s : Sound) (k : ℕ) (b : Bool) (size : length s.pending.tokens ≡ 32) (e : pending_at s.pending k ≡ b) where
  submits-held : (r : Ring) (stream n len m : ℕ) → pending_at (nb_of s r stream n len m).sound.pending k ≡ noted (nb_entry (nb_of s r stream n len m).reply) k b
  submits-held r stream n len m =
      nb-ends (λ (u : NbStep). pending_at u.sound.pending k ≡ noted (nb_entry u.reply) k b) s r stream n len m (λ _. e) (λ _ _ _. e)
      (λ g.
      let j = lowest_in s.pending (places_of r.track.descriptors) in
      let f = g.free in
      put-notes s.pending j k waits true (omega (arith, f, few-places r.track.descriptors, size)) refl (j == k) refl ∙ ap (pick (j == k) true) e)

  marks-held : (reading : Reading) → pending_at (mark_by s reading).sound.pending k ≡ b
  marks-held None = e
  marks-held (Some c) = completes-notes s.pending size k c.slot c.status ∙ e

  mark-held : (reading : Reading) → pending_at (mark_step s reading).sound.pending k ≡ b
  unfolding mark_step
  mark-held reading = guarded-by (λ (u : NbEnd). pending_at u.sound.pending k ≡ b) _ _ _ (λ _. marks-held reading) (λ _. e)

  finish-held : (token : ℕ) → pending_at (finish_step s token).sound.pending k ≡ noted (ends_entry (finish_step s token).said token) k b
  unfolding finish_step
  finish-held token =
      guarded-by (λ (u : NbEnd). pending_at u.sound.pending k ≡ noted (ends_entry u.said token) k b) _ _ _
      (λ _. finishes-notes s.pending size k token ∙ ap (noted (ends_entry (finish_of s.pending token).said token) k) e) (λ _. e)

-- THE THEOREM, of every token
pub pending-exactly : {s : Sound} {r : Ring} (h : Reached s r) (k : ℕ) → pending_at s.pending k ≡ held_by h k
unfolding held_by
pending-exactly (fresh descriptors mode guard jacks streams maps) k = none_then new_pending refl k
pending-exactly (called {s} {r} call n h) k = ap (λ (p : Pending). pending_at p k) (effect-pending (call_of s r.track call n).effect (call_of s r.track call n).core s []) ∙ pending-exactly h k
pending-exactly (fed {s} f h) k = ap (λ (p : Pending). pending_at p k) (effect-pending (plan_of s f).effect (plan_of s f).core s (page_of f)) ∙ pending-exactly h k
pending-exactly (started {s} {r} stream len budget n h) k =
    start-by (λ (x : XferStep). pending_at x.sound.pending k ≡ held_by h k) s r stream len budget n (λ _. pending-exactly h k) (λ _ _ _. pending-exactly h k) (pending-exactly h k)
pending-exactly (scripted {s} {r} stream frames budget script n h) k =
    script-by (λ (x : XferStep). pending_at x.sound.pending k ≡ held_by h k) s r stream (length frames) budget n (λ _. pending-exactly h k) (λ _ _ _. pending-exactly h k) script (pending-exactly h k)
pending-exactly (turned len room reading h) k = pending-exactly h k
pending-exactly (traced {s} {r} stream len budget room n h) k =
    traced-by (λ (x : XferStep). pending_at x.sound.pending k ≡ held_by h k) s r stream len budget room n (λ _. pending-exactly h k) (λ _ _ _. pending-exactly h k) (λ _. pending-exactly h k)
pending-exactly (penned written h) k = pending-exactly h k
pending-exactly (captured {s} {r} stream periods lent budget n h) k =
    capture-by (λ (x : XferStep). pending_at x.sound.pending k ≡ held_by h k) s r stream periods lent budget n (λ _. pending-exactly h k) (λ _ _ _. pending-exactly h k) (λ _. pending-exactly h k)
pending-exactly (received len c h) k = pending-exactly h k
pending-exactly (drained reading h) k = pending-exactly h k
pending-exactly (submitted {s} {r} stream n len m h) k = submits-held s k (held_by h k) (reached-kept h).0.pending (pending-exactly h k) r stream n len m
pending-exactly (marked {s} reading h) k = mark-held s k (held_by h k) (reached-kept h).0.pending (pending-exactly h k) reading
pending-exactly (finished {s} token h) k = finish-held s k (held_by h k) (reached-kept h).0.pending (pending-exactly h k) token
pending-exactly (begun stream len period budget h) k = pending-exactly h k
pending-exactly (listened stream periods period lent budget h) k = pending-exactly h k
pending-exactly (logged stream len period budget room h) k = pending-exactly h k
pending-exactly (ran stream period budget frames script h) k = pending-exactly h k
pending-exactly (renewed descriptors mode h) k = pending-exactly h k

-- ---- THE BYTES. A sequence with one lent store of so many places, whose length stays and which nothing but the submissions writes. Rings of one mode, which tells the places

pub data Lending (places : ℕ) : Sound → Ring → List ℕ → Type 0 where
  opens : {s : Sound} {r : Ring} (store : List ℕ) → none_in s.pending ≡ true → Lending places s r store
  submits : {s : Sound} {r : Ring} {store : List ℕ} (stream m : ℕ) (payload : List ℕ) → places_of r.track.descriptors ≡ places → Lending places s r store
      → Lending places (nb_of s r stream (length payload) (length store) m).sound r (nb_store places (nb_of s r stream (length payload) (length store) m).reply stream payload store)
  marks : {s : Sound} {r : Ring} {store : List ℕ} (reading : Reading) → Lending places s r store → Lending places (mark_step s reading).sound r store
  finishes : {s : Sound} {r : Ring} {store : List ℕ} (token : ℕ) → Lending places s r store → Lending places (finish_step s token).sound r store
  -- any other call, feed, start or turn: it leaves the table (effect-pending) and is not lent the store
  others : {s u : Sound} {r q : Ring} {store : List ℕ} → u.pending ≡ s.pending → Lending places s r store → Lending places u q store

-- what was submitted last under a token
abbrev pub last_by : Result NbReply Refusal → ℕ → List ℕ → ℕ → List ℕ → List ℕ
last_by (Ok (Send n)) stream payload k l = l
last_by (Ok (Token j)) stream payload k l = pick (j == k) (message_of stream payload) l
last_by (Err x) stream payload k l = l

unfoldable pub last_of : {places : ℕ} {s : Sound} {r : Ring} {store : List ℕ} → Lending places s r store → ℕ → List ℕ
last_of (opens store none) k = []
last_of (submits {s} {r} {store} stream m payload e h) k = last_by (nb_of s r stream (length payload) (length store) m).reply stream payload k (last_of h k)
last_of (marks reading h) k = last_of h k
last_of (finishes token h) k = last_of h k
last_of (others e h) k = last_of h k

-- a token's place begins with its message
pub record Holds (places : ℕ) (store : List ℕ) (k : ℕ) (message : List ℕ) : Type 0 where
  pub place : k < places
  pub fits : length message ≤ size_of (length store) places
  pub bytes : bytes_at (place_of (length store) places k) (length message) store ≡ message

module _ (s : Sound) (k : ℕ) (store l : List ℕ) (r : Ring) (h : pending_at s.pending k ≡ true → Holds (places_of r.track.descriptors) store k l) where
  abbrev places : ℕ
  places = places_of r.track.descriptors

  module _ (stream : ℕ) (payload : List ℕ) (g : Given s r stream (length payload) (length store)) where
    abbrev j : ℕ
    j = lowest_in s.pending places

    abbrev new : List ℕ
    new = placed_in store places j stream payload

    same : length new ≡ length store
    same = placed-length store places j stream payload

    fit : 4 + length payload ≤ size_of (length store) places
    fit = let z = g.room in omega arith

    given_by : (b : Bool) → (j == k) ≡ b → pending_at (put s.pending j waits) k ≡ true → Holds places new k (pick b (message_of stream payload) l)
    given_by true q p =
        let z : j ≡ k = eqb-true j k q in
        let n = length-message stream payload in
        record {
          place = subst (λ (i : ℕ). i < places) z g.free;
          fits = subst (λ (i : ℕ). length (message_of stream payload) ≤ size_of i places) (sym same) (subst (λ (i : ℕ). i ≤ size_of (length store) places) (sym n) fit);
          bytes =
              (λ i. bytes_at (place_of (same i) places (sym z i)) (n i) new)
              ∙ placed-there store places j stream payload g.free fit;
        }
    given_by false q p =
        let d : k ≡ j → ⊥ = λ z. eqb-false j k q (sym z) in
        let o = h (sym (ap (λ (t : PendingToken). not (t.state == 0)) (put_other s.pending j k waits d)) ∙ p) in
        record {
          place = o.place;
          fits = subst (λ (i : ℕ). length l ≤ size_of i places) (sym same) o.fits;
          bytes =
              (λ i. bytes_at (place_of (same i) places k) (length l) new)
              ∙ places-apart store places j stream payload k (length l) d o.fits fit
              ∙ o.bytes;
        }

  nb-holds : (stream m : ℕ) (payload : List ℕ)
      → let u = nb_of s r stream (length payload) (length store) m in pending_at u.sound.pending k ≡ true → Holds places (nb_store places u.reply stream payload store) k (last_by u.reply stream payload k l)
  nb-holds stream m payload =
      nb-ends (λ (u : NbStep). pending_at u.sound.pending k ≡ true → Holds places (nb_store places u.reply stream payload store) k (last_by u.reply stream payload k l)) s r stream (length payload) (length store) m
      (λ _. h) (λ _ _ _. h) (λ g. given_by stream payload g (lowest_in s.pending places == k) refl)

-- what a completion or a finish leaves pending was pending
was-by : (p : Pending) (j k : ℕ) (t : PendingToken) (b : Bool) → (j == k) ≡ b → pending_at p j ≡ true → pending_at (put p j t) k ≡ true → pending_at p k ≡ true
was-by p j k t true q e h = subst (λ (i : ℕ). pending_at p i ≡ true) (eqb-true j k q) e
was-by p j k t false q e h = sym (ap (λ (x : PendingToken). not (x.state == 0)) (put_other p j k t (λ z. eqb-false j k q (sym z)))) ∙ h

module _ (s : Sound) (k : ℕ) where
  abbrev Was : Pending → Type 0
  Was p = pending_at p k ≡ true → pending_at s.pending k ≡ true

  marks-was : (reading : Reading) → Was (mark_by s reading).sound.pending
  marks-was None = λ e. e
  marks-was (Some c) =
      mark-by (λ (j : Judged). Was j.table) s.pending c.slot c.status (λ w. was-by s.pending c.slot k (mark c.status) (c.slot == k) refl (waits-pending s.pending c.slot w)) (λ e. e)

  mark_was : (reading : Reading) → Was (mark_step s reading).sound.pending
  unfolding mark_step
  mark_was reading = guarded-by (λ (u : NbEnd). Was u.sound.pending) _ _ _ (λ _. marks-was reading) (λ _ e. e)

  finish-was : (token : ℕ) → Was (finish_step s token).sound.pending
  unfolding finish_step
  finish-was token =
      guarded-by (λ (u : NbEnd). Was u.sound.pending) _ _ _
      (λ _. finish-by (λ (j : Judged). Was j.table) s.pending token (λ w. was-by s.pending token k free_token (token == k) refl w) (λ e. e) (λ e. e)) (λ _ e. e)

-- THE THEOREM: a pending token's place begins with its message, "stream id and one whole period", whatever was submitted, completed and finished since
pub pending-bytes : {places : ℕ} {s : Sound} {r : Ring} {store : List ℕ} (h : Lending places s r store) (k : ℕ) → pending_at s.pending k ≡ true → Holds places store k (last_of h k)
unfolding last_of
pending-bytes (opens {s} store none) k e = absurd (false≢true (sym (none_then s.pending none k) ∙ e))
pending-bytes (submits {s} {r} {store} stream m payload same h) k e =
    let u = nb_of s r stream (length payload) (length store) m in
    subst (λ (n : ℕ). Holds n (nb_store n u.reply stream payload store) k (last_by u.reply stream payload k (last_of h k))) same
    (nb-holds s k store (last_of h k) r (λ w. subst (λ (n : ℕ). Holds n store k (last_of h k)) (sym same) (pending-bytes h k w)) stream m payload e)
pending-bytes (marks {s} reading h) k e = pending-bytes h k (mark_was s k reading e)
pending-bytes (finishes {s} token h) k e = pending-bytes h k (finish-was s k token e)
pending-bytes (others q h) k e = pending-bytes h k (sym (ap (λ (p : Pending). pending_at p k) q) ∙ e)

-- ---- an instance: 2 streams, parameters of stream 1 set, a period of 2,048. A submission into a store of 16 places of 2,052 bytes gets token 0; completed and finished, it is held no more

abbrev once : Reached (nb_of parameters_set (new_ring direct) 1 2048 32832 24).sound (new_ring direct)
once = submitted 1 2048 32832 24 reached-set

pub held-once : held_by once 0 ≡ true
unfolding held_by reached-set places_of nb_of after call_of feed_of fail_of begin_of answer_of after_jacks after_streams after_maps after_sent own_set consistent_of stream_ok placed_of paced_of guard judged num_at bytes_at un lowest_in
held-once = refl

pub held-no-more : held_by (finished 0 (marked (completion 0 0x8000) once)) 0 ≡ false
unfolding held_by reached-set places_of nb_of mark_step finish_step mark_token finish_token after call_of feed_of fail_of begin_of answer_of after_jacks after_streams after_maps after_sent own_set consistent_of stream_ok placed_of paced_of guard judged num_at bytes_at un lowest_in
held-no-more = refl
