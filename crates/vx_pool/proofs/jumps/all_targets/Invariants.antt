use Rattle.std.proofs.Common.{◌≡◌, ◌+◌, ◌*◌, true}
use Rattle.vx_opcode.specs.Numbers.{s4}
use Rattle.vx_pool.specs.Instructions.{is_target, all_below}
use Rattle.vx_pool.proofs.jumps.all_targets.Given as goal

abbrev pub invariant-loop-k : goal.invariant-loop-k
invariant-loop-k l = all_below l.k (λ k. is_target l.starts l.at (s4 l.code (l.first + l.stride * k))) ≡ true
