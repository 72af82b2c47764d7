-- `state_store::tokens::read_tokens` meets its contract: a token at a time. Assumes nothing.
use Rattle.std.proofs.Common.{◌≡◌, length}
use Rattle.state_store.specs.TokenLaws.{First}
use Rattle.state_store.proofs.tokens.read_tokens.Given as goal

abbrev pub invariant-loop-k : goal.invariant-loop-k
invariant-loop-k l = (length l.tokens ≡ 32) × First l.s l.k l.tokens
