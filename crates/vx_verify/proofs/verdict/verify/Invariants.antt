use Rattle.std.proofs.Common.{ℕ, ◌<◌}
use Rattle.vx_verify.specs.Typing.{IsTyped}
use Rattle.vx_verify.proofs.verdict.verify.Given as goal

-- each method so far has a typing
abbrev pub invariant-loop-place : goal.invariant-loop-place
invariant-loop-place l = (m : ℕ) → m < l.place → IsTyped l.program m
