use Rattle.std.proofs.Common.{◌≡◌, drop}
use Rattle.vx_pool.specs.Checks.{each}
use Rattle.vx_pool.specs.Instructions.{jumps_at, jumps_checked}
use Rattle.vx_pool.proofs.jumps.check_jumps.Given as goal

abbrev pub invariant-loop-start : goal.invariant-loop-start
invariant-loop-start l = each (λ at _. jumps_at l.starts l.code l.base at) (λ _. 0) (drop l.start-index l.start-items) 0 ≡ jumps_checked l.starts l.code l.base
