-- `model::transfer::transfer` meets its contract. Assumes nothing.
use Rattle.std.proofs.Common.{sym, refl, ◌∙◌, le-leb}
use borrow.Author.Tests.{lt-leb}
use Rattle.layout.specs.Layout.{size}
use Rattle.records.specs.Records.{transfer_status}
use Rattle.codes.specs.SaysLaws.{passes, stops}
use Rattle.model.specs.Transfer.{transfer_call}
use Rattle.model.proofs.transfer.transfer.Goals as goal

pub returns-then-answer-lt-SIZE : goal.returns-then-answer-lt-SIZE
unfolding transfer_call
returns-then-answer-lt-SIZE c = stops _ _ _ (lt-leb (size transfer_status) _ c.if-answer-lt-SIZE.true) refl

pub returns-then-within : goal.returns-then-within
unfolding transfer_call
returns-then-within c =
    passes _ _ _ (le-leb (size transfer_status) _ c.if-answer-lt-SIZE.false)
    (passes _ _ _ (sym c.within.ensures ∙ c.if-within.true) c.done.ensures)

pub returns : goal.returns
unfolding transfer_call
returns c = passes _ _ _ (le-leb (size transfer_status) _ c.if-answer-lt-SIZE.false) (stops _ _ _ (sym c.within.ensures ∙ c.if-within.false) refl)
