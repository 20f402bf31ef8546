use Rattle.std.proofs.Common.{◌≡◌, ◌++◌, ◌∷◌, [], take}
use Rattle.std.specs.List.{flat_map}
use Rattle.vx_pool.specs.declared.pool.Entry.TheVariants as entry
use Rattle.vx_class_parts.specs.Constants.{entries_of}
use Rattle.vx_class_parts.proofs.constants.all_entries.Given as goal

abbrev pub invariant-loop-constant : goal.invariant-loop-constant
invariant-loop-constant l = l.entries.items ≡ (entry.Unusable ∷ []) ++ flat_map (entries_of l.pool) (take l.constant-index l.pool)
