-- A record that is written in a message, and what is told in a message that is long enough.
-- Assumes nothing.
use Rattle.std.specs.Prelude.{◌≡◌, ℕ, ◌≤◌, List, ◌++◌, length, drop, Result}
use Rattle.std.specs.Prelude.{refl}
use Rattle.std.proofs.Common.{sym, ap, ◌∙◌, le-leb}
use Rattle.layout.specs.Lent.{message_size}
use Rattle.layout.specs.Layout.{size, write}
use Rattle.layout.specs.LayoutLaws.{length-write}
use Rattle.records.specs.Slice.{written}
use Rattle.records.specs.SliceLaws.{written-long}
use Rattle.codes.specs.SaysLaws.{passes}
use Rattle.sound_core.specs.Reply.{message_after, reply_of, tell_of, told_in}
use Rattle.sound_core.specs.Types.{Say, Refusal}

-- a record, written at the front of a buffer that is long enough
pub sent-by : (ws vs l n : List ℕ) → size ws ≤ length l → n ≡ written ws vs l → (size ws ≡ length (write ws vs)) × (n ≡ write ws vs ++ drop (length (write ws vs)) l)
sent-by ws vs l n h e =
    let k : size ws ≡ length (write ws vs) = sym (length-write ws vs) in
    (k, e ∙ written-long ws vs l h ∙ ap (λ (m : ℕ). write ws vs ++ drop m l) k)

pub tells-reply : (a : Result Say Refusal) (n : ℕ) → message_size ≤ n → tell_of a n ≡ reply_of a
tells-reply a n h = sym (passes _ _ _ (le-leb message_size n h) refl)

pub tells-message : (a : Result Say Refusal) (l : List ℕ) → message_size ≤ length l → told_in a l ≡ message_after a l
tells-message a l h = sym (passes _ _ _ (le-leb message_size (length l) h) refl)
