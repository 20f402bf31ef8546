use Rattle.std.proofs.Common.{◌≡◌, drop}
use Rattle.vx_plain.specs.Views.{state_of}
use Rattle.vx_plain_ready.specs.Waiting.{numbers_of, waiting}
use Rattle.vx_plain_ready.proofs.frames.push_all.Given as goal

abbrev pub invariant-loop-class : goal.invariant-loop-class
invariant-loop-class l = waiting l.program (state_of l.state) (numbers_of (drop l.class-index l.chain)) ≡ waiting l.program (state_of l.initial.state) (numbers_of l.chain)
