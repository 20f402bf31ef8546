-- Caller frames, which stand once in a tree that all groups share: each node has a frame and the number of its own caller.
use Rattle.std.specs.Prelude.{◌≡◌, ℕ, ◌<◌, ◌^◌, Bool, true, List, [], ◌∷◌, length, map, Option, Some, None, slice_index_or, zero, suc, ◌||◌}
use Rattle.std.specs.List.{flat_map}
use Rattle.vx_space.specs.Sets.{Sets, IsSet}
use Rattle.vx_cond.specs.Cond.{IsInside}
use Rattle.vx_frame.specs.declared.frame.Frame.{Frame}
use Rattle.vx_frame.specs.Frame.{PlainFrame, IsFrame, IsFrameOf, frame_at, shape_of, scope_of, frame_ids}
use Rattle.vx_group.specs.declared.callers.Caller.{Caller}

-- the node of a number, or none
abbrev pub node_at : {S I : Type 0} → List (Option (Caller S I)) → ℕ → Option (Caller S I)
node_at tree n = slice_index_or tree n None

abbrev pub node_of : {S I : Type 0} → List (Option (Caller S I)) → Option ℕ → Option (Caller S I)
node_of tree None = None
node_of tree (Some n) = node_at tree n

-- so many frames from a caller down, the nearest first
abbrev pub callers_of : {S I : Type 0} → List (Option (Caller S I)) → ℕ → Option ℕ → List (Frame S I)
callers_of tree zero caller = []
callers_of tree (suc n) caller = elim (node_of tree caller) [ None ↦ [] | Some node ↦ node.frame ∷ callers_of tree n node.caller ]

-- the caller is the first of so many nodes, of which the last has no caller
abbrev pub AreNodes : {S I : Type 0} → List (Option (Caller S I)) → ℕ → Option ℕ → Type 0
AreNodes tree zero caller = caller ≡ None
AreNodes {S = S} {I = I} tree (suc n) caller = (node : Caller S I) × (node_of tree caller ≡ Some node) × AreNodes tree n node.caller

-- a frame in the tree: its scope, which may be wider, holds the path
pub record IsCallerFrame {S I : Type 0} (sets : Sets I) (path : I) (frame : Frame S I) : Type 0 where
  pub is_frame : IsFrame sets frame
  pub holds : IsInside sets path (scope_of frame)
  pub few : length frame.stack.conds < 2 ^ 32

-- over this space, each frame from a caller down holds the path
abbrev pub AreCallers : {S I : Type 0} → Sets I → List (Option (Caller S I)) → I → ℕ → Option ℕ → Type 0
AreCallers sets tree path zero caller = caller ≡ None
AreCallers {S = S} {I = I} sets tree path (suc n) caller = (node : Caller S I) × (node_of tree caller ≡ Some node) × IsCallerFrame sets path node.frame × AreCallers sets tree path n node.caller

-- the later tree keeps each node under its number
pub record Keeps {S I : Type 0} (old new : List (Option (Caller S I))) : Type 0 where
  pub kept : (n : ℕ) (node : Caller S I) → node_at old n ≡ Some node → node_at new n ≡ Some node

-- the later tree has a node more, under a number that was free
pub record IsAdded {S I : Type 0} (old new : List (Option (Caller S I))) (n : ℕ) (node : Caller S I) : Type 0 where
  pub free : node_at old n ≡ None
  pub added : node_at new n ≡ Some node
  pub keeps : Keeps old new

-- the plain frames at a configuration, in order
abbrev pub frames_at : {S I : Type 0} → Sets I → List (Frame S I) → List Bool → List PlainFrame
frames_at sets frames c = map (λ frame. frame_at sets frame c) frames

-- the ids held by a node, and by all nodes
abbrev pub node_ids : {S I : Type 0} → Option (Caller S I) → List I
node_ids None = []
node_ids (Some node) = frame_ids node.frame

abbrev pub tree_ids : {S I : Type 0} → List (Option (Caller S I)) → List I
tree_ids tree = flat_map node_ids tree

-- a frame restricted to a path that its scope holds
pub record IsFrameInside {S I : Type 0} (old new : Sets I) (path : I) (frame inner : Frame S I) : Type 0 where
  pub scope : scope_of inner ≡ path
  pub shape : shape_of inner ≡ shape_of frame
  pub is_frame : IsFrameOf new (frame_at old frame) inner

-- two frames of one shape, each restricted to its path and then joined
pub record IsFrameJoined {S I : Type 0} (old new : Sets I) (a b : I) (first second made : Frame S I) : Type 0 where
  pub is_frame : IsFrame new made
  pub scope : IsSet new (scope_of made) (λ c. old.test a c || old.test b c)
  pub shape : shape_of made ≡ shape_of first
  pub at_first : (c : List Bool) → old.test a c ≡ true → frame_at new made c ≡ frame_at old first c
  pub at_second : (c : List Bool) → old.test b c ≡ true → frame_at new made c ≡ frame_at old second c

-- the callers of two paths as one: for each path inside their union, with the first's frames in the first path, and the second's in the second
pub record AreJoined {S I : Type 0} (old new : Sets I) (before after : List (Option (Caller S I))) (n : ℕ) (a : I) (first : Option ℕ) (b : I) (second made : Option ℕ) : Type 0 where
  pub nodes : AreNodes after n made
  pub callers : (path : I) → ((c : List Bool) → new.test path c ≡ true → (old.test a c || old.test b c) ≡ true) → AreCallers new after path n made
  pub shapes : map shape_of (callers_of after n made) ≡ map shape_of (callers_of before n first)
  pub at_first : (c : List Bool) → old.test a c ≡ true → frames_at new (callers_of after n made) c ≡ frames_at old (callers_of before n first) c
  pub at_second : (c : List Bool) → old.test b c ≡ true → frames_at new (callers_of after n made) c ≡ frames_at old (callers_of before n second) c
