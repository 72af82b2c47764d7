-- "Trust only what was written", of the entry `snd_feed_written`: two pages that agree in the bytes that the device wrote lead to one answer and to one content of state, message and result.
-- Assumes nothing.
use Rattle.std.specs.Prelude.{◌≡◌, ℕ, ◌&&◌, List, length, ◌==◌, nat_le, Some}
use Rattle.layout.specs.Lent.{message_size, page_size}
use Rattle.layout.specs.Bytes.{bytes_at}
use Rattle.layout.specs.Layout.{size}
use Rattle.codes.specs.Says.{guard}
use Rattle.records.specs.Records.{jack_info, pcm_info, channel_map}
use Rattle.tables.specs.WrittenLaws.{judged-alike}
use Rattle.sound_core.specs.Plan.{refuse_of, answer_of, verdict_by}
use Rattle.sound_core.specs.Reply.{reply_word, message_after}
use Rattle.exchange.specs.Tables.{pending_look}
use Rattle.exchange.specs.Exchange.{feed_of}
use Rattle.exchange.specs.Strict.{written-only}
use Rattle.codes.specs.declared.answers.Refusal.TheVariants.{BadLength}
use Rattle.sound_core.specs.declared.state.Counts.{Counts}
use Rattle.sound_core.specs.declared.state.Stage.{Stage}
use Rattle.sound_core.specs.declared.state.Stage.TheVariants.{Idle, JacksAsked, StreamsAsked, MapsAsked, Sent}
use Rattle.exchange.specs.declared.state.Sound.{Sound}
use Rattle.state_store.specs.Store.{sound_of, state_after}
use Rattle.state_store.specs.Calls.{left, result_bytes, too_short, lengths, feed_in}
use Rattle.std.proofs.lemmas.List.Edits.{sets}

module _ (w : ℕ) (p q : List ℕ) (l : length p ≡ length q) (e : bytes_at 0 w p ≡ bytes_at 0 w q) where
  verdict-alike : (g : Stage) (n : Counts) → verdict_by (Some w) g n p ≡ verdict_by (Some w) g n q
  verdict-alike Idle n = judged-alike w p q l e 0 0
  verdict-alike (JacksAsked call) n = judged-alike w p q l e n.jacks (size jack_info)
  verdict-alike (StreamsAsked call) n = judged-alike w p q l e n.streams (size pcm_info)
  verdict-alike (MapsAsked call) n = judged-alike w p q l e n.maps (size channel_map)
  verdict-alike (Sent call) n = judged-alike w p q l e 0 0

  plan-alike : (s : Sound) (n : ℕ) → feed_of (Some w) s p n ≡ feed_of (Some w) s q n
  unfolding feed_of
  plan-alike s n =
      λ i. guard ((l i == page_size && nat_le w page_size) && nat_le message_size n) (refuse_of s.core BadLength)
      (answer_of s.core (verdict-alike s.core.stage s.core.counts i) (pending_look s.core.stage s))

  pub written-only-entry : (s m r : List ℕ) → feed_in (Some w) s p m r ≡ feed_in (Some w) s q m r
  unfolding feed_in
  written-only-entry s m r =
      let x = written-only w p q l e (sound_of s) (length m) in
      let y = plan-alike (sound_of s) (length m) in
      λ i. guard (lengths s r) (too_short s m r)
      (left (reply_word (x i).reply) (state_after s (x i).sound) (message_after (y i).say m) (sets r 0 (result_bytes (x i).reply (x i).streams)))
