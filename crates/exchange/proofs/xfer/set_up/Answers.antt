-- `exchange::xfer::set_up` meets its contract. Assumes nothing.
use Rattle.std.proofs.Common.{◌∙◌}
use Rattle.sound_core.specs.ReplyLaws.{tells-message}
use Rattle.exchange.proofs.xfer.set_up.Goals as goal

pub returns : goal.returns
returns c =
    let a = c.ask_jacks-plan.ensures in
    (simp a, simp (c.tell.ensures.1 ∙ tells-message c.ask_jacks-plan.result.say c.args.message.now c.requires, a))
