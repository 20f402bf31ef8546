use Rattle.std.proofs.Common.{◌≡◌, ◌+◌, ◌*◌, true}
use Rattle.std.specs.Prelude.{int_lt}
use Rattle.vx_opcode.specs.Numbers.{s4}
use Rattle.vx_pool.specs.Instructions.{all_below}
use Rattle.vx_pool.proofs.jumps.are_ascending.Given as goal

abbrev pub invariant-loop-k : goal.invariant-loop-k
invariant-loop-k l = all_below l.k (λ k. int_lt (s4 l.code (l.first + 8 * k)) (s4 l.code (l.first + 8 * k + 8))) ≡ true
