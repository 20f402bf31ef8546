use Rattle.std.proofs.Common.{◌≡◌, ◌-◌, ◌≤◌, ◌<◌, All, length, vec_len}
use Rattle.vx_pool.specs.Instructions.{checked_at, walk, starts_of}
use Rattle.vx_pool.proofs.instructions.places_of.Given as goal

abbrev pub invariant-loop-at : goal.invariant-loop-at
invariant-loop-at l = record {
  so_far : walk (checked_at l.pool l.major l.max_locals l.code l.base) (length l.code) l.starts.items (length l.code - vec_len l.starts) l.at ≡ starts_of l.pool l.major l.max_locals l.code l.base;
  below : All (λ s. s < length l.code) l.starts.items;
  few : vec_len l.starts ≤ l.at;
  within : l.at ≤ length l.code;
}

abbrev pub decreases-loop-at : goal.decreases-loop-at
decreases-loop-at l = length l.code - l.at
