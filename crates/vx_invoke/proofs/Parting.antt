-- The part of a group in the condition of one leaf of what its call comes to.
use Rattle.std.proofs.Common.{◌≡◌, ◌<◌, ℕ, Bool, true, List, Some, sym, ◌∙◌, ap, arith, get_or, length}
use Rattle.std.specs.Prelude.{Option, ◌&&◌}
use Rattle.std.specs.declared.cmp.Ordering.{Ordering}
use Rattle.vx_cond.specs.declared.cond.Leaf.{Leaf}
use Rattle.vx_cond.specs.Leaves.{AreLeaves, value_at}
use Rattle.vx_frames.specs.Entering.{is_long}
use Rattle.vx_frames.proofs.TreeGathering.{IsGrowing}
use Rattle.vx_group.specs.declared.callers.Caller.{Caller}
use Rattle.vx_group.specs.Group.{GroupView, IsGroupIn, IsPartOf, path_of}
use Rattle.vx_group_states.specs.Sites.{Cover}
use Rattle.vx_group_states.proofs.Gathering.{IsGathering-inner, leaf_inside, leaf_value, part_path}
use Rattle.vx_group_states.proofs.GroupParts.{IsSomewhere-leaf, part_group}
use Rattle.vx_heap.specs.Heap.{HeapView}
use Rattle.vx_java.specs.Machine.{State}
use Rattle.vx_java.specs.Machine.{Outcome as PlainOutcome}
use Rattle.vx_link.specs.declared.program.Program.{Program}
use Rattle.vx_outcome.specs.declared.outcome.Outcome.{Outcome}
use Rattle.vx_space.specs.Sets.{Extends, IsLawful, Sets}
use Rattle.vx_space.proofs.Spaces.{Extends-trans}
use Rattle.vx_value.specs.declared.ids.MethodId.{MethodId}
use Rattle.vx_frames.proofs.GivingLaws.{IsGroupIn-part}
use Rattle.vx_invoke.proofs.Rooms.{MayEnter-instance, arguments_fit-part, operand_at-part, operands-part}
use Rattle.vx_invoke.specs.Called.{MayEnter}
use Rattle.vx_invoke.specs.Calling.{MayEnterEach}
use Rattle.vx_invoke.specs.Calls.{call_cmp}
use Rattle.vx_invoke.specs.declared.call.Call.{Call}
use Rattle.vx_invoke.specs.declared.call.Call.TheVariants.{Enter}

-- it stands in the tree with the frames that were pushed so far
pub leaf_part_in : {K S I : Type 0} (cmp : K → K → Ordering) (p : Program) {s0 s1 s2 : Sets I} (tree later : List (Option (Caller S I))) (group : GroupView S I) (says : HeapView S I → List Bool → State → PlainOutcome) (xs : List (Leaf K S I)) (i : ℕ) (x : Leaf K S I) (rest part : GroupView S I) (outcomes : List (Outcome S I)) → AreLeaves cmp s0 xs → Cover s0 (path_of group) xs → i < length xs → x ≡ get_or xs i x → IsGroupIn s0 tree group → IsGrowing p s0 s1 tree later group says xs i rest outcomes → Extends s1 s2 → IsPartOf s1 s2 (λ c. s1.test (path_of rest) c && s1.test x.condition c) rest part → IsGroupIn s2 later part
leaf_part_in cmp p {s0 = s0} {s2 = s2} tree later group says xs i x rest part outcomes leaves cover l e v g f a =
    IsGroupIn-part (Extends-trans g.gathers.extends f) g.keeps (s0.test x.condition) group part (leaf_inside s0 (path_of group) xs i x cover l e) v (IsGathering-inner cmp p s2 group _ says xs i x rest part outcomes leaves cover l e g.gathers a)

-- and may enter the method that the leaf enters
pub leaf_enters : {S I : Type 0} (p : Program) {s0 s1 : Sets I} → IsLawful s0 → (s2 : Sets I) (tree later : List (Option (Caller S I))) (group : GroupView S I) (says : HeapView S I → List Bool → State → PlainOutcome) (xs : List (Leaf Call S I)) (i : ℕ) (x : Leaf Call S I) (rest part : GroupView S I) (outcomes : List (Outcome S I)) (count : ℕ) → AreLeaves call_cmp s0 xs → Cover s0 (path_of group) xs → i < length xs → x ≡ get_or xs i x → MayEnterEach p s0 group count xs → IsGrowing p s0 s1 tree later group says xs i rest outcomes → IsPartOf s1 s2 (λ c. s1.test (path_of rest) c && s1.test x.condition c) rest part → MayEnter p s2 part count x.value
leaf_enters p {s0 = s0} {s1 = s1} lawful s2 tree later group says xs i x rest part outcomes count leaves cover l e may g a =
    let inner : IsPartOf s0 s2 (s0.test x.condition) group part = IsGathering-inner call_cmp p s2 group _ says xs i x rest part outcomes leaves cover l e g.gathers a in
    let operands = operands-part s0 s2 (s0.test x.condition) group part inner in
    let enough = may.enough in
    let somewhere = IsSomewhere-leaf call_cmp s2 lawful group part xs i x leaves l e inner in
    let inside : (c : List Bool) → s2.test (path_of part) c ≡ true → s0.test x.condition c ≡ true = λ c t. sym (part_path s0 s2 (s0.test x.condition) group part inner c) ∙ t in
    let value : (m : MethodId) → x.value ≡ Enter m → (c : List Bool) → s2.test (path_of part) c ≡ true → value_at s0 xs c ≡ Some (Enter m) = λ m is c t. leaf_value call_cmp s0 xs i x c leaves l e (inside c t) ∙ ap Some is in
    MayEnter-instance p s2 part may.types count x.value (part_group s0 s2 (s0.test x.condition) group part inner) (omega (arith, operands, enough)) may.number
    (λ m is. may.room somewhere.config m (value m is somewhere.config somewhere.inside))
    (λ m is c t. ap is_long (operand_at-part s0 s2 (s0.test x.condition) group part (length may.types) inner c t) ∙ may.short c m (value m is c t))
    (λ c t. arguments_fit-part s0 s2 (s0.test x.condition) group part may.types inner c t ∙ may.fit c (leaf_inside s0 (path_of group) xs i x cover l e c (inside c t)))
