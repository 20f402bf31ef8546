-- Groups: configurations whose runs stand at one key, with their frames and attempts.
use Rattle.std.specs.Prelude.{◌≡◌, ℕ, Bool, true, List, ◌∷◌, ◌++◌, length, map, reverse, Option, unwrap_or, suc}
use Rattle.std.specs.Ordering.{nat_cmp}
use Rattle.vx_value.specs.declared.key.KeyPart.{KeyPart}
use Rattle.vx_space.specs.Sets.{Sets, IsSet}
use Rattle.vx_cond.specs.Cond.{Conditional, IsCond, cond_at, cond_ids}
use Rattle.vx_frame.specs.declared.frame.Frame.{Frame}
use Rattle.vx_frame.specs.Frame.{PlainFrame, Shape, IsFrame, frame_at, shape_of, part_of, scope_of, frame_ids}
use Rattle.vx_group.specs.declared.callers.Caller.{Caller}
use Rattle.vx_group.specs.Callers.{callers_of, AreCallers, frames_at}

-- a `Group` as contracts see it: the attempts, whose scope is the path, the frame on top, the parts of the frames below, the nearest first, and the number of the nearest one
pub record GroupView (S I : Type 0) : Type 0 where
  pub attempts : Conditional ℕ S I
  pub top : Frame S I
  pub below : List KeyPart
  pub caller : Option ℕ

-- a `Below` as contracts see it: a group without its frame on top
pub record BelowView (S I : Type 0) : Type 0 where
  pub attempts : Conditional ℕ S I
  pub below : List KeyPart
  pub caller : Option ℕ

-- the configurations of the group
abbrev pub path_of : {S I : Type 0} → GroupView S I → I
path_of group = group.attempts.scope

-- how many frames it has
abbrev pub depth_of : {S I : Type 0} → GroupView S I → ℕ
depth_of group = suc (length group.below)

-- the parts of its frames, from bottom to top
abbrev pub key_of : {S I : Type 0} → GroupView S I → List KeyPart
key_of group = reverse (part_of group.top ∷ group.below)

-- its frames in a tree, the top first
abbrev pub stack_of : {S I : Type 0} → List (Option (Caller S I)) → GroupView S I → List (Frame S I)
stack_of tree group = group.top ∷ callers_of tree (length group.below) group.caller

abbrev pub shapes_of : {S I : Type 0} → List (Option (Caller S I)) → GroupView S I → List Shape
shapes_of tree group = map shape_of (stack_of tree group)

-- the attempts at a configuration of the path
abbrev pub attempts_at : {S I : Type 0} → Sets I → GroupView S I → List Bool → ℕ
attempts_at sets group c = unwrap_or (cond_at sets group.attempts c) 0

-- a plain state's frames, the top first, and its attempts
pub record PlainGroup : Type 0 where
  pub frames : List PlainFrame
  pub attempts : ℕ

-- what stands at a configuration of the path
abbrev pub group_at : {S I : Type 0} → Sets I → List (Option (Caller S I)) → GroupView S I → List Bool → PlainGroup
group_at sets tree group c = record { frames = frames_at sets (stack_of tree group) c; attempts = attempts_at sets group c }

-- what the group has by itself at a configuration of the path
pub record PlainTop : Type 0 where
  pub frame : PlainFrame
  pub attempts : ℕ

abbrev pub top_at : {S I : Type 0} → Sets I → GroupView S I → List Bool → PlainTop
top_at sets group c = record { frame = frame_at sets group.top c; attempts = attempts_at sets group c }

-- the ids that the group holds by itself: path, attempts and the frame on top
abbrev pub group_ids : {S I : Type 0} → GroupView S I → List I
group_ids group = cond_ids group.attempts ++ frame_ids group.top

-- over this space, by itself: attempts and the frame on top have one scope
pub record GroupFacts {S I : Type 0} (sets : Sets I) (group : GroupView S I) : Type 0 where
  pub attempts : IsCond nat_cmp sets group.attempts
  pub top : IsFrame sets group.top
  pub one_scope : scope_of group.top ≡ path_of group

-- the same, as a word that tactics don't take apart
unfoldable pub IsGroup : {S I : Type 0} → Sets I → GroupView S I → Type 0
IsGroup sets group = GroupFacts sets group

-- over this space and this tree: its callers, down to the lowest frame, are nodes whose scopes hold the path, and their parts are those of its key
pub record GroupInFacts {S I : Type 0} (sets : Sets I) (tree : List (Option (Caller S I))) (group : GroupView S I) : Type 0 where
  pub is_group : IsGroup sets group
  pub callers : AreCallers sets tree (path_of group) (length group.below) group.caller
  pub parts : map part_of (callers_of tree (length group.below) group.caller) ≡ group.below

unfoldable pub IsGroupIn : {S I : Type 0} → Sets I → List (Option (Caller S I)) → GroupView S I → Type 0
IsGroupIn sets tree group = GroupInFacts sets tree group

-- it is a group, and this stands at each configuration of its path
pub record GroupOfFacts {S I : Type 0} (sets : Sets I) (tree : List (Option (Caller S I))) (value : List Bool → PlainGroup) (group : GroupView S I) : Type 0 where
  pub is_group : IsGroupIn sets tree group
  pub at : (c : List Bool) → sets.test (path_of group) c ≡ true → group_at sets tree group c ≡ value c

unfoldable pub IsGroupOf : {S I : Type 0} → Sets I → List (Option (Caller S I)) → (List Bool → PlainGroup) → GroupView S I → Type 0
IsGroupOf sets tree value group = GroupOfFacts sets tree value group

-- a part of a group: it has this set as path, the same callers and the same shape on top, and inside the path the same frame on top and the same attempts
pub record PartFacts {S I : Type 0} (old new : Sets I) (set : List Bool → Bool) (group part : GroupView S I) : Type 0 where
  pub is_group : IsGroup new part
  pub path : IsSet new (path_of part) set
  pub below : part.below ≡ group.below
  pub caller : part.caller ≡ group.caller
  pub shape : shape_of part.top ≡ shape_of group.top
  pub at : (c : List Bool) → new.test (path_of part) c ≡ true → top_at new part c ≡ top_at old group c

unfoldable pub IsPartOf : {S I : Type 0} → Sets I → Sets I → (List Bool → Bool) → GroupView S I → GroupView S I → Type 0
IsPartOf old new set group part = PartFacts old new set group part

-- the frame on top was taken off: the caller's frame, restricted to the path, is on top then
pub record IsPopped {S I : Type 0} (old new : Sets I) (tree : List (Option (Caller S I))) (before : GroupView S I) (taken : Frame S I) (after : GroupView S I) : Type 0 where
  pub is_group : IsGroupIn new tree after
  pub top : taken ≡ before.top
  pub attempts : after.attempts ≡ before.attempts
  pub shapes : shapes_of tree before ≡ shape_of taken ∷ shapes_of tree after
  pub at : (c : List Bool) → old.test (path_of before) c ≡ true → frames_at old (stack_of tree before) c ≡ frame_at old taken c ∷ frames_at new (stack_of tree after) c
