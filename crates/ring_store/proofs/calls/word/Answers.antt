-- Case by case. Assumes nothing.
use Rattle.ring_store.proofs.calls.word.Goals as goal

pub returns-in-Ended : goal.returns-in-Ended
returns-in-Ended c = rw c.in-Ended.is c.word.ensures

pub returns-in-Refused : goal.returns-in-Refused
returns-in-Refused c = rw c.in-Refused.is c.word-in-Refused.ensures
