-- What is refused leaves every lent byte as it was: the state, the message and the result.
-- Assumes nothing.
use Rattle.std.specs.Prelude.{◌≡◌, ℕ, ◌<◌, ◌≤◌, Bool, true, false, List, [], ◌∷◌, length, ◌==◌, Result, Ok, Err}
use Rattle.std.proofs.Math.Path.{refl}
use Rattle.std.proofs.Common.{sym, ap, ◌∙◌, subst, inl, inr, arith, eq-eqb}
use Rattle.std.proofs.lemmas.Bool.{false≢true}
use Rattle.std.proofs.lemmas.List.Edits.{sets}
use Rattle.layout.specs.Bytes.{Bytes}
use Rattle.layout.specs.LayoutLaws.{length-write}
use Rattle.codes.specs.Says.{pick}
use Rattle.codes.specs.SaysLaws.{guarded-by, skips}
use Rattle.codes.specs.Answers.{says_refusal}
use Rattle.codes.specs.AnswersLaws.{numbered}
use Rattle.codes.specs.Cause.{number_in, forget}
use Rattle.records.specs.Records.{query, query_values, remap, remap_values, pcm_command, pcm_command_values, set_parameters, set_parameters_values}
use Rattle.sound_core.specs.Consistent.{consistent_of}
use Rattle.sound_core.specs.Plan.{refuse_of}
use Rattle.sound_core.specs.Reply.{request_bytes, says_reply, reply_word, reply_of}
use Rattle.exchange.specs.Exchange.{step_of, call_of}
use Rattle.exchange.specs.Feed.{Feed, paged, failed, plan_of, page_of, fed_of, One, own_refusals}
use Rattle.exchange.specs.PlanLaws.{Begun, bars, asks, goes, Answered, short, idle, asks-streams, asks-maps, cuts, finishes, ends, fails, fed}
use Rattle.exchange.specs.Refused.{refused-writes-nothing, refused-unchanged, Left, same, closed, cut, done, refused-feed}
use Rattle.sound_core.specs.declared.plan.Request.TheVariants as request
use Rattle.sound_core.specs.declared.plan.Say.TheVariants as say
use Rattle.state_store.specs.Store.{whole, sound_of, sound_bytes, state_after}
use Rattle.state_store.specs.Calls.{Told, told, too_short, result_bytes, call_in, feed_in, fail_in, Opened, open_as, open_in, open_capture_in}
use Rattle.state_store.specs.StoreLaws.{core_at, store_same}
use Rattle.state_store.specs.OpenLaws.{gate_in, open_by, opened-by}
use Rattle.state_store.specs.Types.{Written, Refusal, InvalidParam, BadLength, Verdict, Track, Call, SetParams, Command, Remap, Streams, Supported, Xfer, Capture, Core, Sound, Look, Plan, Reply, Request, Say, Gate, SetUp, Open}

pub record Unchanged (s m r : List ℕ) (x : Told) : Type 0 where
  pub state : x.state ≡ s
  pub message : x.message ≡ m
  pub result : x.result ≡ r

-- the number of a reply: at most 256 and the longest request
request-small : (q : Request) → length (request_bytes q) ≤ 24
request-small (request.Query q) = omega (arith, length-write query (query_values q))
request-small (request.Remap q) = omega (arith, length-write remap (remap_values q))
request-small (request.Command q) = omega (arith, length-write pcm_command (pcm_command_values q))
request-small (request.Set q) = omega (arith, length-write set_parameters (set_parameters_values q))

pub reply-small : (a : Result Say Refusal) → (says_reply (reply_of a)).number ≤ 280
reply-small (Ok (say.Send q)) = omega (arith, request-small q)
reply-small (Ok (say.Done v)) = omega arith
reply-small (Err r) = omega (arith, (numbered r).small)

-- ---- numbers 1 to 255, in the low half of an answer, are refusals

record IsRefused (y : Result Reply Refusal) : Type 0 where
  why : Refusal
  is : y ≡ Err why

refused-by : (a : Result Say Refusal) → 0 < number_in (reply_word (reply_of a)) → number_in (reply_word (reply_of a)) < 256 → IsRefused (reply_of a)
refused-by (Ok (say.Send q)) p n = let z = reply-small (Ok (say.Send q)) in absurd (omega arith)
refused-by (Ok (say.Done v)) p n = absurd (omega arith)
refused-by (Err x) p n = record { why = x; is = refl }

-- of all that a feed is refused with, 10 alone leaves the state as it was, whatever was asked
abbrev Others : List ℕ → Type 0
Others [] = Unit {0}
Others (x ∷ xs) = ((x == 10) ≡ false) × Others xs

lacks : (n : ℕ) (ns : List ℕ) → Others ns → n ≡ 10 → One n ns → ⊥
lacks n (x ∷ xs) h e (inl o) = false≢true (sym h.0 ∙ eq-eqb x 10 (sym o ∙ e))
lacks n (x ∷ xs) h e (inr o) = lacks n xs h.1 e o
lacks n [] h e x3 = elim x3 [ ]

own-others : (call : Call) → Others (own_refusals call)
own-others (SetParams stream to) = (refl, (refl, tt))
own-others (Command kind stream) = (refl, (refl, tt))
own-others (Remap jack association sequence) = (refl, (refl, (refl, tt)))
own-others (Streams direction) = tt
own-others (Supported field stream) = (refl, tt)
own-others (Xfer stream) = (refl, (refl, (refl, tt)))
own-others (Capture stream) = (refl, (refl, (refl, tt)))

ten-left : (x : Sound) (r : Refusal) {y : Sound} → (says_refusal r).number ≡ 10 → Left x r y → y ≡ x
ten-left x r e (same o) = refl
ten-left x r e (closed o g) = absurd (lacks (says_refusal r).number (2 ∷ 3 ∷ 7 ∷ 11 ∷ []) (refl, (refl, (refl, (refl, tt)))) e o)
ten-left x r e (cut o a) = absurd (lacks (says_refusal r).number (2 ∷ 5 ∷ 7 ∷ 11 ∷ []) (refl, (refl, (refl, (refl, tt)))) e o)
ten-left x r e (done {call} n tables j p o g) = absurd (lacks (says_refusal r).number (own_refusals call) (own-others call) e o)

-- ---- of a state that fails the consistency test, every plan is a refusal that keeps it

pub record Barred (c : Core) (p : Plan) : Type 0 where
  pub why : Refusal
  pub is : p ≡ refuse_of c why

module _ (c : Core) (e : consistent_of c ≡ false) where
  never : {A : Type 0} → consistent_of c ≡ true → A
  never k = absurd (false≢true (sym e ∙ k))

  pub begun-barred : {call : Call} {look : Look} {p : Plan} → Begun c call look p → Barred c p
  begun-barred (bars x) = record { why = x; is = refl }
  begun-barred (asks k _ _ _) = never k
  begun-barred (goes k _ _ _ _) = never k

  pub answered-barred : {v : Verdict} {look : Look} {long : Bool} {p : Plan} → Answered c v look long p → Barred c p
  answered-barred (short _) = record { why = BadLength; is = refl }
  answered-barred (idle _) = record { why = InvalidParam; is = refl }
  answered-barred (asks-streams k _) = never k
  answered-barred (asks-maps k _ _) = never k
  answered-barred (cuts _ _ _ k _) = never k
  answered-barred (finishes k _ _) = never k
  answered-barred (ends k _ _) = never k
  answered-barred (fails _ k _) = never k

-- ---- a plan that refuses, with nothing changed

module _ (s m r : List ℕ) (b : Bytes s) where
  pub state-kept : (w : Bool) → whole s ≡ w → pick w (sets s 0 (sound_bytes (sound_of s))) s ≡ s
  state-kept true e = store_same s b e
  state-kept false e = refl

  pub told-unchanged : (p : Plan) (page : List ℕ) (x : Refusal) → reply_of p.say ≡ Err x → (step_of p (sound_of s) page).sound ≡ sound_of s → Unchanged s m r (told s p page m r)
  told-unchanged p page x e k =
      record {
        state = ap (state_after s) k ∙ state-kept (whole s) refl;
        message = refused-writes-nothing p.say x m e;
        result = ap (λ (y : Result Reply Refusal). sets r 0 (result_bytes y (step_of p (sound_of s) page).streams)) e;
      }

  -- ---- A CALL: whatever it is refused with

  pub call-refused : (t : Track) (call : Call) → 0 < number_in (call_in s t call m r).answer → number_in (call_in s t call m r).answer < 256 → Unchanged s m r (call_in s t call m r)
  unfolding call_in
  call-refused t call =
      let p = call_of (sound_of s) t call (length m) in
      guarded-by (λ (x : Told). 0 < number_in x.answer → number_in x.answer < 256 → Unchanged s m r x) _ _ _
      (λ _ a z. let y = refused-by p.say a z in told-unchanged p [] y.why y.is (refused-unchanged (sound_of s) t call (length m) y.why y.is))
      (λ _ _ _. record { state = refl; message = refl; result = refl })

  -- ---- A FEED: 10, and 1 for a state that fails the consistency test (of which a store that is not whole is one)

  inconsistent : (f : Feed) → consistent_of (sound_of s).core ≡ false → Unchanged s m r (told s (plan_of (sound_of s) f) (page_of f) m r)
  inconsistent f e =
      let x = sound_of s in
      let k = answered-barred x.core e (fed x f) in
      subst (λ (p : Plan). Unchanged s m r (told s p (page_of f) m r)) (sym k.is) (told-unchanged (refuse_of x.core k.why) (page_of f) k.why refl refl)

  feed-unchanged : (f : Feed) → reply_word (fed_of (sound_of s) f).reply ≡ 10 → Unchanged s m r (told s (plan_of (sound_of s) f) (page_of f) m r)
  feed-unchanged f e =
      let y = refused-by (plan_of (sound_of s) f).say (omega arith) (omega arith) in
      let n : (says_refusal y.why).number ≡ 10 = sym (forget y.why) ∙ ap number_in (sym (ap reply_word y.is) ∙ e) in
      told-unchanged (plan_of (sound_of s) f) (page_of f) y.why y.is (ten-left (sound_of s) y.why n (refused-feed (sound_of s) f y.why y.is))

  abbrev Kept : Told → Type 0
  Kept = Unchanged s m r

  nothing : Kept (too_short s m r)
  nothing = record { state = refl; message = refl; result = refl }

  pub feed-refused : (w : Written) (page : List ℕ) → (feed_in w s page m r).answer ≡ 10 → Kept (feed_in w s page m r)
  unfolding feed_in
  feed-refused w page = guarded-by (λ (x : Told). x.answer ≡ 10 → Kept x) _ _ _ (λ _. feed-unchanged (paged w page (length m))) (λ _ _. nothing)

  pub fail-refused : (fail_in s m r).answer ≡ 10 → Kept (fail_in s m r)
  unfolding fail_in
  fail-refused = guarded-by (λ (x : Told). x.answer ≡ 10 → Kept x) _ _ _ (λ _. feed-unchanged (failed (length m))) (λ _ _. nothing)

  module _ (e : consistent_of (sound_of s).core ≡ false) where
    pub feed-inconsistent : (w : Written) (page : List ℕ) → Kept (feed_in w s page m r)
    unfolding feed_in
    feed-inconsistent w page = guarded-by Kept _ _ _ (λ _. inconsistent (paged w page (length m)) e) (λ _. nothing)

    pub fail-inconsistent : Kept (fail_in s m r)
    unfolding fail_in
    fail-inconsistent = guarded-by Kept _ _ _ (λ _. inconsistent (failed (length m)) e) (λ _. nothing)

-- a store that is not whole fails the consistency test
pub not-whole : (s : List ℕ) → whole s ≡ false → consistent_of (sound_of s).core ≡ false
unfolding consistent_of
not-whole s e = ap consistent_of (core_at s ∙ skips _ _ _ e)

-- ---- THE START OF A TRANSFER: whatever it is refused with

abbrev Bars : (s m : List ℕ) → ℕ → Opened → Type 0
Bars s m n o = o.opening ≡ Err n → number_in n < 256 → (o.state ≡ s) × (o.message ≡ m)

open-bars : (capture : Bool) (call : Call) (s m : List ℕ) (t : Track) (stream n : ℕ) → Bars s m n (open_as capture call s t stream m)
open-bars capture call s m t stream n = opened-by capture call s m t stream (Bars s m n) by
  where
    by : (g : Result Gate Refusal) → g ≡ gate_in capture call s m t stream → Bars s m n (open_by capture call s m t stream g)
    by (Err x) _ e k = (refl, refl)
    by (Ok SetUp) _ e k = let z : 272 ≡ n = cc in absurd (omega arith)
    by (Ok (Open period)) _ e k = (refl, refl)

pub open-refused : (s m : List ℕ) (t : Track) (stream n : ℕ) → (open_in s t stream m).opening ≡ Err n → number_in n < 256 → ((open_in s t stream m).state ≡ s) × ((open_in s t stream m).message ≡ m)
unfolding open_in
open-refused s m t stream n = open-bars false (Xfer stream) s m t stream n

pub open-capture-refused : (s m : List ℕ) (t : Track) (stream n : ℕ) → (open_capture_in s t stream m).opening ≡ Err n → number_in n < 256
    → ((open_capture_in s t stream m).state ≡ s) × ((open_capture_in s t stream m).message ≡ m)
unfolding open_capture_in
open-capture-refused s m t stream n = open-bars true (Capture stream) s m t stream n
