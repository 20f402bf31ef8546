-- The law of keeping, for a group in its tree.
use Rattle.std.specs.Prelude.{◌≡◌, List, Option}
use Rattle.vx_space.specs.Sets.{Sets, AreKept}
use Rattle.vx_group.specs.declared.callers.Caller.{Caller}
use Rattle.vx_group.specs.Callers.{tree_ids}
use Rattle.vx_group.specs.Group.{GroupView, group_at, group_ids, IsGroupIn, IsGroupOf}

-- over two spaces in which each id of the group and of its tree has the same set, it stays a group in the tree, and the same stands at each configuration of its path
abbrev pub KeepsGroups : (S I : Type 0) → Type 0
KeepsGroups S I = (old new : Sets I) (tree : List (Option (Caller S I))) (group : GroupView S I) → new.never ≡ old.never → AreKept old new (group_ids group) → AreKept old new (tree_ids tree) → IsGroupIn old tree group → IsGroupOf new tree (group_at old tree group) group
