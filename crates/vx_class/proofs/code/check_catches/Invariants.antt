use Rattle.std.proofs.Common.{◌≡◌, ◌+◌, ◌*◌, drop}
use Rattle.vx_pool.specs.Checks.{each}
use Rattle.vx_class.specs.Code.{row_checked, catches_checked}
use Rattle.vx_class.proofs.code.check_catches.Given as goal

abbrev pub invariant-loop-row : goal.invariant-loop-row
invariant-loop-row l = record {
  so_far : each (row_checked l.pool l.starts l.code) (λ _. 8) (drop l.row-index l.rows) l.at ≡ catches_checked l.pool l.starts l.code l.rows l.start;
  moved : l.at ≡ l.start + 8 * l.row-index;
}
