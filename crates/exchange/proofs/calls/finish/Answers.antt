-- `exchange::calls::finish` meets its contract, by those of its parts. Assumes nothing.
use Rattle.std.proofs.Common.{length, ◌∙◌}
use Rattle.sound_core.specs.ReplyLaws.{tells-reply, tells-message}
use Rattle.exchange.specs.StepLaws.{stepped}
use Rattle.exchange.proofs.calls.finish.Goals as goal

pub returns : goal.returns
returns c =
    let a = c.args in
    let t = c.tell.ensures in
    stepped (simp (c.list_of-streams.ensures, t.0 ∙ tells-reply a.p.say (length a.message.now) c.requires, c.apply.ensures)) (t.1 ∙ tells-message a.p.say a.message.now c.requires)
