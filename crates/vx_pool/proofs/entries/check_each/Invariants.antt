use Rattle.std.proofs.Common.{◌≡◌, ◌+◌, drop, sum_by}
use Rattle.vx_pool.specs.Pool.{size}
use Rattle.vx_pool.specs.Entries.{entries_checked}
use Rattle.vx_pool.proofs.entries.check_each.Given as goal

abbrev pub invariant-loop-item : goal.invariant-loop-item
invariant-loop-item l = record {
  so_far : entries_checked l.pool (drop l.item-index l.item-items) l.at ≡ entries_checked l.pool l.pool.entries l.start;
  moved : l.at + sum_by size (drop l.item-index l.item-items) ≡ l.start + sum_by size l.item-items;
}
