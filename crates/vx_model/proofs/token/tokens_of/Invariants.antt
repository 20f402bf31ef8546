use Rattle.std.proofs.Common.{◌≡◌, ◌++◌, length}
use Rattle.vx_model.specs.Tokens.{tokens}
use Rattle.vx_model.proofs.token.tokens_of.Given as goal

abbrev pub invariant-loop-piece : goal.invariant-loop-piece
invariant-loop-piece l = l.tokens.items ++ tokens l.options l.rest ≡ tokens l.options l.text

abbrev pub decreases-loop-piece : goal.decreases-loop-piece
decreases-loop-piece l = length l.rest
