-- A plan, carried out on a store by parts: the laws for the code that goes from the head to the plan, and from the plan to what is left.
-- Assumes nothing.
use Rattle.std.specs.Prelude.{◌≡◌, ℕ, ◌≤◌, Bool, true, false, ◌&&◌, List, [], length, nat_le, refl, Err, Result}
use Rattle.std.proofs.Common.{sym, ◌∙◌, leb-true}
use Rattle.std.proofs.Math.Path.{ap}
use Rattle.std.proofs.lemmas.List.Edits.{sets}
use Rattle.tables.specs.Tables.{page_ok}
use Rattle.layout.specs.Bytes.{Bytes}
use Rattle.codes.specs.Says.{guard}
use Rattle.codes.specs.SaysLaws.{picks, skips, passes, stops}
use Rattle.turns.specs.ConsistentLaws.{both}
use Rattle.sound_core.specs.Plan.{refuse_of, begin_of, answer_of, verdict_by}
use Rattle.exchange.specs.Tables.{look_of, pending_look, sound_after}
use Rattle.sound_core.specs.ReplyLaws.{tells-reply, tells-message}
use Rattle.sound_core.specs.Reply.{message_after, reply_of, tell_of, told_in}
use Rattle.exchange.specs.Exchange.{call_of, feed_of, fail_of}
use Rattle.tables.specs.declared.verdict.Fault.TheVariants as fault
use Rattle.state_store.specs.Types.{Written, BadLength, Track, Verdict, QueueFailed, Call, Core, Say, Effect, Look, Plan, Refusal}
use Rattle.state_store.specs.Places.{state_size}
use Rattle.layout.specs.Lent.{result_size, message_size}
use Rattle.state_store.specs.Store.{head_at, core_of, whole, sound_of, sound_bytes}
use Rattle.state_store.specs.Calls.{Told, left, told, too_short, lengths, call_in, feed_in, fail_in}
use Rattle.state_store.specs.StoreLaws.{core_at}
use Rattle.state_store.specs.RefusedLaws.{state-kept}
use Rattle.state_store.specs.Steps.{changed, finished}

-- ---- a plan carried out, by whether the store is whole

module _ (w : Bool) (s : List ℕ) (e : Effect) (c : Core) (page : List ℕ) where
  pub change-none : w ≡ false → s ≡ changed w s e c page
  change-none h = sym (skips w _ s h)

  pub change-all : {l : List ℕ} → w ≡ true → l ≡ sets s 0 (sound_bytes (sound_after e c (sound_of s) page)) → l ≡ changed w s e c page
  change-all h p = p ∙ sym (picks w _ s h)

-- what is told in a message that is long enough
module _ (a : Result Say Refusal) (m : List ℕ) (l : message_size ≤ length m) where
  pub tells : tell_of a (length m) ≡ reply_of a
  tells = tells-reply a (length m) l

  pub says-in : told_in a m ≡ message_after a m
  says-in = tells-message a m l

-- ---- lengths

pub long-state : (s r : List ℕ) → lengths s r ≡ true → state_size ≤ length s
long-state s r e = leb-true state_size (length s) (both (nat_le state_size (length s)) (nat_le result_size (length r)) e).0

pub long-message : (w : Written) (page m : List ℕ) → (page_ok w page && nat_le message_size (length m)) ≡ true → message_size ≤ length m
long-message w page m e = leb-true message_size (length m) (both (page_ok w page) (nat_le message_size (length m)) e).1

-- ---- from the head to the plan

too_short_lem : (s m r : List ℕ) (x : Told) → lengths s r ≡ false → left 10 s m r ≡ guard (lengths s r) (too_short s m r)
    x
too_short_lem s m r x e = stops _ _ _ e refl

module _ (s m r : List ℕ) where
  pub call-unread : (t : Track) (call : Call) → lengths s r ≡ false → left 10 s m r ≡ call_in s t call m r
  unfolding call_in
  call-unread t call e = too_short_lem s m r _ e

  pub feed-unread : (w : Written) (page : List ℕ) → lengths s r ≡ false → left 10 s m r ≡ feed_in w s page m r
  unfolding feed_in
  feed-unread w page e = too_short_lem s m r _ e

  pub fail-unread : lengths s r ≡ false → left 10 s m r ≡ fail_in s m r
  unfolding fail_in
  fail-unread e = too_short_lem s m r _ e

  short : (page : List ℕ) → Bytes s → left 10 s m r ≡ told s (refuse_of (sound_of s).core BadLength) page m r
  short page b = ap (λ (t : List ℕ). left 10 t m r) (sym (state-kept s m r b (whole s) refl))

  module _ (l : lengths s r ≡ true) where
    pub call-short : (t : Track) (call : Call) → Bytes s → nat_le message_size (length m) ≡ false → left 10 s m r ≡ call_in s t call m r
    unfolding call_in call_of
    call-short t call b e = passes _ _ _ l (short [] b ∙ ap (λ (p : Plan). told s p [] m r) (stops _ _ _ e refl))

    pub feed-short : (w : Written) (page : List ℕ) → Bytes s → (page_ok w page && nat_le message_size (length m)) ≡ false → left 10 s m r ≡ feed_in w s page m r
    unfolding feed_in feed_of
    feed-short w page b e = passes _ _ _ l (short page b ∙ ap (λ (p : Plan). told s p page m r) (stops _ _ _ e refl))

    pub fail-short : Bytes s → nat_le message_size (length m) ≡ false → left 10 s m r ≡ fail_in s m r
    unfolding fail_in fail_of
    fail-short b e = passes _ _ _ l (short [] b ∙ ap (λ (p : Plan). told s p [] m r) (stops _ _ _ e refl))

    module _ {w : Bool} {c : Core} (v : w ≡ whole s) (d : c ≡ core_of (head_at s)) where
      at-core : c ≡ (sound_of s).core
      at-core = d ∙ sym (core_at s)

      done : (page : List ℕ) {p q : Plan} → p ≡ q → finished w s p page m r ≡ told s q page m r
      done page e = λ i. finished (v i) s (e i) page m r

      pub called : (t : Track) (call : Call) {k : Look} {p : Plan} → nat_le message_size (length m) ≡ true → k ≡ look_of (sound_of s) call → p ≡ begin_of c t call k → finished w s p [] m r ≡ call_in s t call m r
      unfolding call_in call_of
      called t call e k p = passes _ _ _ l (done [] (passes _ _ _ e (p ∙ (λ i. begin_of (at-core i) t call (k i)))))

      pub fed : (y : Written) (page : List ℕ) {x : Verdict} {k : Look} {p : Plan} → (page_ok y page && nat_le message_size (length m)) ≡ true → x ≡ verdict_by y c.stage c.counts page
          → k ≡ pending_look c.stage (sound_of s) → p ≡ answer_of c x k → finished w s p page m r ≡ feed_in y s page m r
      unfolding feed_in feed_of
      fed y page e x k p =
          passes _ _ _ l
          (done page (passes _ _ _ e (p ∙ (λ i. answer_of c (x i) (k i))
          ∙ ap (λ (z : Core). answer_of z (verdict_by y z.stage z.counts page) (pending_look z.stage (sound_of s))) at-core)))

      pub failed : {k : Look} {p : Plan} → nat_le message_size (length m) ≡ true → k ≡ pending_look c.stage (sound_of s) → p ≡ answer_of c (Err (fault.Refused QueueFailed)) k → finished w s p [] m r ≡ fail_in s m r
      unfolding fail_in fail_of
      failed e k p =
          passes _ _ _ l
          (done [] (passes _ _ _ e (p ∙ ap (answer_of c (Err (fault.Refused QueueFailed))) k ∙ ap (λ (z : Core). answer_of z (Err (fault.Refused QueueFailed)) (pending_look z.stage (sound_of s))) at-core)))
