-- Groups that stand at a call (JVMS 6.5).
use Rattle.std.specs.Prelude.{◌≡◌, ◌≤◌, ℕ, Bool, true, false, List, is_some, length, suc, sum_by, Option, Some, None}
use Rattle.vx_class.specs.Members.{STATIC}
use Rattle.vx_cond.specs.declared.cond.Leaf.{Leaf}
use Rattle.vx_cond.specs.Cond.{Conditional, IsInside, cond_at}
use Rattle.vx_cond.specs.Leaves.{value_at}
use Rattle.vx_desc.specs.Descriptors.{slots_of}
use Rattle.vx_desc.specs.declared.java_type.JavaType.{JavaType}
use Rattle.vx_families.specs.Bounds.{IsBounded}
use Rattle.vx_frames.specs.Entering.{is_long}
use Rattle.vx_group.specs.declared.callers.Caller.{Caller}
use Rattle.vx_group.specs.Group.{GroupView, path_of}
use Rattle.vx_group_states.specs.Answering.{operands_at}
use Rattle.vx_group_states.specs.Sites.{here}
use Rattle.vx_group_states.specs.Stands.{StandsIn}
use Rattle.vx_group_states.specs.declared.site.Site.{Site}
use Rattle.vx_heap.specs.Heap.{HeapView, IsHeap, IsHeapFor}
use Rattle.vx_java.specs.Initialisation.{max_locals}
use Rattle.vx_java.specs.Machine.{Outcome, State, illegal}
use Rattle.vx_java.specs.declared.operation.Mode.TheVariants.{Static}
use Rattle.vx_link.specs.Names.{Member}
use Rattle.vx_link.specs.Parts.{has, method_at}
use Rattle.vx_link.specs.Signature.{signature}
use Rattle.vx_link.specs.declared.program.Program.{Program}
use Rattle.vx_list.specs.Places.{item_or}
use Rattle.vx_references.specs.Calls.{may_call}
use Rattle.vx_references.specs.declared.calls.MethodReference.{MethodReference}
use Rattle.vx_references.specs.declared.calls.MethodReference.TheVariants.{Clone, Found}
use Rattle.vx_space.specs.Sets.{Sets}
use Rattle.vx_value.specs.declared.ids.MethodId.{MethodId}
use Rattle.vx_value.specs.declared.slot.Slot.{Slot}
use Rattle.vx_value.specs.declared.slot.Slot.TheVariants.{Top}
use Rattle.vx_invoke.specs.Arguments.{arguments_fit}
use Rattle.vx_invoke.specs.Called.{IsTarget, called_with}
use Rattle.vx_invoke.specs.declared.call.Call.{Call}
use Rattle.vx_invoke.specs.declared.call.Call.TheVariants.{Enter}
use Rattle.vx_invoke.specs.declared.target.Target.{Target}

-- nothing is there that the instruction may call
abbrev pub is_unresolved : MethodReference → Bool
is_unresolved (Found named resolved) = false
is_unresolved (Clone named) = false
is_unresolved _ = true

-- an operand at a configuration, by its place from the top
abbrev pub operand_at : {S I : Type 0} → Sets I → GroupView S I → ℕ → List Bool → Slot
operand_at sets group i c = item_or (operands_at sets group.top.stack c) i Top

-- ---- the operands

-- in each configuration of a set the operands on top are of the sorts of the arguments of a method, whose locals have room for them if it has code
pub record MayEnterInside {S I : Type 0} (p : Program) (sets : Sets I) (group : GroupView S I) (set : I) (count m : ℕ) : Type 0 where
  pub types : List JavaType
  pub number : length types ≡ count
  pub room : is_some (method_at p m).code ≡ true → sum_by slots_of types ≤ max_locals (method_at p m).code
  pub fit : (c : List Bool) → sets.test set c ≡ true → arguments_fit sets group types c ≡ true

-- the same for the methods with a receiver under their arguments that leaves enter: the receiver is no long where one is entered
pub record MayEnterEach {S I : Type 0} (p : Program) (sets : Sets I) (group : GroupView S I) (count : ℕ) (calls : List (Leaf Call S I)) : Type 0 where
  pub types : List JavaType
  pub number : suc (length types) ≡ count
  pub enough : count ≤ length group.top.stack.conds
  pub room : (c : List Bool) (m : MethodId) → value_at sets calls c ≡ Some (Enter m) → suc (sum_by slots_of types) ≤ max_locals (method_at p m.0).code
  pub short : (c : List Bool) (m : MethodId) → value_at sets calls c ≡ Some (Enter m) → is_long (operand_at sets group (length types) c) ≡ false
  pub fit : (c : List Bool) → sets.test (path_of group) c ≡ true → arguments_fit sets group types c ≡ true

-- the same inside the scope of what the call comes to
pub record MatchCalls {S I : Type 0} (p : Program) (sets : Sets I) (group : GroupView S I) (count : ℕ) (calls : Conditional Call S I) : Type 0 where
  pub types : List JavaType
  pub number : suc (length types) ≡ count
  pub enough : count ≤ length group.top.stack.conds
  pub inside : IsInside sets calls.scope (path_of group)
  pub room : (c : List Bool) (m : MethodId) → cond_at sets calls c ≡ Some (Enter m) → suc (sum_by slots_of types) ≤ max_locals (method_at p m.0).code
  pub short : (c : List Bool) (m : MethodId) → cond_at sets calls c ≡ Some (Enter m) → is_long (operand_at sets group (length types) c) ≡ false
  pub fit : (c : List Bool) → sets.test calls.scope c ≡ true → arguments_fit sets group types c ≡ true

-- where the arguments fit comes what the call comes to, and elsewhere it breaks a rule
abbrev pub where_called : Site → (count : ℕ) → Option Call → State → Outcome
where_called site count None s = illegal (here site s)
where_called site count (Some call) s = called_with site count call s

-- ---- the group

-- it stands over this heap and this tree, at the call of a method that the name is resolved to
pub record IsCallable {S I : Type 0} (site : Site) (sets : Sets I) (heap : HeapView S I) (tree : List (Option (Caller S I))) (group : GroupView S I) (target : Target) : Type 0 where
  pub bounded : IsBounded site.program.now
  pub is_heap : IsHeap sets heap
  pub is_for : IsHeapFor site.program.now heap
  pub stands : StandsIn site.program.now sets heap tree group
  pub may_call : may_call target.mode (method_at site.program.now target.resolved.0) ≡ true

-- the same, of a method that isn't static, with the types of the arguments
pub record IsCalling {S I : Type 0} (site : Site) (sets : Sets I) (heap : HeapView S I) (tree : List (Option (Caller S I))) (group : GroupView S I) (target : Target) (ts : List JavaType) : Type 0 where
  pub callable : IsCallable site sets heap tree group target
  pub of_object : has STATIC (method_at site.program.now target.resolved.0).flags ≡ false
  pub types : (signature (method_at site.program.now target.resolved.0).descriptor).arguments ≡ ts

-- it stands at the call of a static method, with arguments of these types
pub record IsCallingStatic {S I : Type 0} (site : Site) (sets : Sets I) (heap : HeapView S I) (tree : List (Option (Caller S I))) (group : GroupView S I) (method : MethodId) (ts : List JavaType) : Type 0 where
  pub bounded : IsBounded site.program.now
  pub is_heap : IsHeap sets heap
  pub is_for : IsHeapFor site.program.now heap
  pub stands : StandsIn site.program.now sets heap tree group
  pub may_call : may_call Static (method_at site.program.now method.0) ≡ true
  pub types : (signature (method_at site.program.now method.0).descriptor).arguments ≡ ts

-- the instruction names the target by this member
pub record IsMemberOf {S I : Type 0} (p : Program) (group : GroupView S I) (called : Target) (m : Member) : Type 0 where
  pub target : IsTarget called.mode m (method_at p group.top.method.0).class.0 called
  pub descriptor : (method_at p called.resolved.0).descriptor ≡ m.descriptor
