-- Groups side by side: each configuration stands in one of them at most, and no two have one key.
use Rattle.std.specs.Prelude.{◌≡◌, ◌≢◌, ℕ, Bool, true, List, [], ◌∷◌, Option, Some, None, if◌then◌else◌, zero, suc}
use Rattle.std.specs.List.{list_all}
use Rattle.vx_space.specs.Sets.{Sets}
use Rattle.vx_cond.specs.Cond.{AreDisjoint}
use Rattle.vx_frame.specs.Frame.{Shape}
use Rattle.vx_value.specs.declared.key.KeyPart.{KeyPart}
use Rattle.vx_group.specs.declared.callers.Caller.{Caller}
use Rattle.vx_group.specs.Group.{GroupView, PlainGroup, path_of, key_of, shapes_of, group_at, IsGroupIn}

-- what stands at a configuration: frames and attempts of the group whose path holds it, or none
abbrev pub standing_at : {S I : Type 0} → Sets I → List (Option (Caller S I)) → List (GroupView S I) → List Bool → Option PlainGroup
standing_at sets tree [] c = None
standing_at sets tree (group ∷ groups) c = if sets.test (path_of group) c then Some (group_at sets tree group c) else standing_at sets tree groups c

-- no configuration of a set is in a group
abbrev pub AreApart : {S I : Type 0} → Sets I → I → List (GroupView S I) → Type 0
AreApart sets set [] = Unit {0}
AreApart sets set (group ∷ groups) = AreDisjoint sets set (path_of group) × AreApart sets set groups

-- no group has the key
abbrev pub IsFresh : {S I : Type 0} → List KeyPart → List (GroupView S I) → Type 0
IsFresh key [] = Unit {0}
IsFresh key (group ∷ groups) = (key_of group ≢ key) × IsFresh key groups

-- the group at a place has the key
abbrev pub HasKeyAt : {S I : Type 0} → List (GroupView S I) → ℕ → List KeyPart → Type 0
HasKeyAt [] place key = ⊥
HasKeyAt (group ∷ groups) zero key = key_of group ≡ key
HasKeyAt (group ∷ groups) (suc place) key = HasKeyAt groups place key

-- a group beside others: it holds a configuration, none that another holds, and its key is its own
pub record StandsBeside {S I : Type 0} (sets : Sets I) (tree : List (Option (Caller S I))) (group : GroupView S I) (others : List (GroupView S I)) : Type 0 where
  pub is_group : IsGroupIn sets tree group
  pub nonempty : path_of group ≢ sets.never
  pub apart : AreApart sets (path_of group) others
  pub fresh : IsFresh (key_of group) others

abbrev pub AreGroups : {S I : Type 0} → Sets I → List (Option (Caller S I)) → List (GroupView S I) → Type 0
AreGroups sets tree [] = Unit {0}
AreGroups sets tree (group ∷ groups) = StandsBeside sets tree group groups × AreGroups sets tree groups

-- a group can be joined with each group that has its key: frames at one height have equally many locals
abbrev pub FitsAmong : {S I : Type 0} → List (Option (Caller S I)) → GroupView S I → List (GroupView S I) → Type 0
FitsAmong tree group [] = Unit {0}
FitsAmong tree group (other ∷ others) = (key_of other ≡ key_of group → shapes_of tree other ≡ shapes_of tree group) × FitsAmong tree group others

-- what holds of the shapes of each group's frames, the top first
abbrev pub are_shaped : {S I : Type 0} → (List Shape → Bool) → List (Option (Caller S I)) → List (GroupView S I) → Bool
are_shaped test tree groups = list_all (λ group. test (shapes_of tree group)) groups

-- A group was placed among groups of other keys. The groups of the later space and tree are groups side by side again, and at each configuration of its path stands what stood in it, elsewhere what stood in the others. What holds of the shapes of all holds after.
pub record IsPlaced {S I : Type 0} (old new : Sets I) (before after : List (Option (Caller S I))) (groups : List (GroupView S I)) (group : GroupView S I) (placed : List (GroupView S I)) : Type 0 where
  pub are_groups : AreGroups new after placed
  pub standing : (c : List Bool) → standing_at new after placed c ≡ (if old.test (path_of group) c then Some (group_at old before group c) else standing_at old before groups c)
  pub shapes : (test : List Shape → Bool) → test (shapes_of before group) ≡ true → are_shaped test before groups ≡ true → are_shaped test after placed ≡ true
