-- `sound_core::reply::put_request` meets its contract: each record writes itself. Assumes nothing.
use borrow.Author.Rules.{rules}
use Rattle.records.specs.Records.{set_parameters, set_parameters_values}
use Rattle.sound_core.specs.ReplyLaws.{sent-by}
use Rattle.sound_core.proofs.reply.put_request.Goals as goal

pub returns-in-Set : goal.returns-in-Set
returns-in-Set c =
    rw c.in-Set.is (sent-by set_parameters (set_parameters_values c.in-Set.record) _ _ (search rules) c.write-in-Set.ensures.1)
