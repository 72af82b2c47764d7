-- `state_store::calls::finish` meets its contract, by those of its parts. Assumes nothing.
use Rattle.std.proofs.Common.{ℕ, List, ap, ◌∙◌}
use lib.Seq.{sets}
use Rattle.tables.specs.Tables.{pcms_in}
use Rattle.sound_core.specs.Reply.{reply_word, reply_of}
use Rattle.exchange.specs.Exchange.{list_of}
use Rattle.state_store.specs.Calls.{left, result_bytes}
use Rattle.state_store.specs.FinishLaws.{tells, says-in}
use Rattle.state_store.specs.RefusedLaws.{reply-small}
use Rattle.state_store.specs.PlaceLaws.{tables-part}
use Rattle.state_store.proofs.calls.finish.Goals as goal

pub word_of-requires : goal.word_of-requires
word_of-requires c =
    rw (c.tell.ensures.0 ∙ tells c.args.plan.say c.args.message.now c.requires.1) (reply-small c.args.plan.say)

pub returns : goal.returns
returns c =
    let say = c.args.plan.say in
    let m = c.args.message.now in
    λ i. left
    ((c.word_of.ensures ∙ ap reply_word (c.tell.ensures.0 ∙ tells say m c.requires.1)) i)
    (c.change.ensures i)
    ((c.tell.ensures.1 ∙ says-in say m c.requires.1) i)
    ((c.put_result.ensures
    ∙ ap (λ (t : List ℕ). sets c.args.res.now 0 (result_bytes (reply_of say) (list_of say c.args.plan.core.read.streams (pcms_in t)))) (tables-part c.args.state.now c.requires.0)) i)
