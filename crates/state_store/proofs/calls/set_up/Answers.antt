-- `state_store::calls::set_up` meets its contract, by those of its parts. Assumes nothing.
use Rattle.std.specs.Prelude.{Err}
use Rattle.std.proofs.Common.{[], ap, ◌∙◌}
use Rattle.state_store.specs.Calls.{opened}
use Rattle.state_store.specs.FinishLaws.{says-in}
use Rattle.state_store.specs.Steps.{changed}
use Rattle.sound_core.specs.Reply.{message_after}
use Rattle.state_store.specs.Types.{Nothing, Plan}
use Rattle.state_store.proofs.calls.set_up.Goals as goal

pub returns : goal.returns
returns c =
    let p = c.ask_jacks-plan.ensures in
    λ i. opened (Err 272)
    ((c.change_core.ensures ∙ ap (λ (q : Plan). changed c.args.whole c.args.state.now Nothing q.core []) p) i)
    ((c.tell.ensures.1 ∙ says-in c.ask_jacks-plan.result.say c.args.message.now c.requires.1 ∙ ap (λ (q : Plan). message_after q.say c.args.message.now) p) i)
