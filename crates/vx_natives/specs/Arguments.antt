-- The values of a call of a native method, at one configuration (JVMS 2.6.2, 4.3.3).
use Rattle.std.specs.Prelude.{◌≡◌, ℕ, Bool, false, true, List, None, Option, Some, [], drop, if◌then◌else◌, length, nat_le, option_map, reverse, take, ◌&&◌, ◌++◌, ◌+◌, ◌∷◌}
use Rattle.std.specs.List.{AllZip}
use Rattle.vx_cells.specs.Classes.{has_class}
use Rattle.vx_class.specs.Members.{STATIC}
use Rattle.vx_cond.specs.Cond.{Conditional, IsCond}
use Rattle.vx_desc.specs.declared.java_type.JavaType.{JavaType}
use Rattle.vx_families.specs.Sorts.{narrowed_slot, slot_fits}
use Rattle.vx_group.specs.Group.{GroupView, path_of}
use Rattle.vx_group_states.specs.Answering.{operands_at}
use Rattle.vx_group_states.specs.Widths.{slots_size}
use Rattle.vx_group_states.specs.declared.site.Site.{Site}
use Rattle.vx_heap.specs.Heap.{HeapView, class_at_slot}
use Rattle.vx_java.specs.Checks.{sort_of, width_of_type}
use Rattle.vx_java.specs.FirstObjects.{narrow_of_type}
use Rattle.vx_java.specs.Ids.{as_class}
use Rattle.vx_link.specs.Assignability.{assignable}
use Rattle.vx_link.specs.ClassNames.{class_of_type}
use Rattle.vx_link.specs.Parts.{has, method_at}
use Rattle.vx_link.specs.Signature.{signature}
use Rattle.vx_link.specs.declared.program.LinkedMethod.{LinkedMethod}
use Rattle.vx_link.specs.declared.program.Program.{Program}
use Rattle.vx_space.specs.Sets.{Sets}
use Rattle.vx_value.specs.declared.ids.ClassId.{ClassId}
use Rattle.vx_value.specs.declared.operation.Narrow.{Narrow}
use Rattle.vx_value.specs.declared.slot.Slot.{Slot}
use Rattle.vx_value.specs.declared.slot.Slot.TheVariants.{Null, Ref}
use Rattle.vx_natives.specs.CallOrder.{call_cmp}
use Rattle.vx_natives.specs.Calls.{call_at, call_given}
use Rattle.vx_natives.specs.declared.call.Call.{Call}

-- ---- one value

-- null, or an object that may stand where a class is wanted
abbrev pub is_instance : {S I : Type 0} → Program → HeapView S I → (wanted : ℕ) → Slot → Bool
is_instance p heap wanted Null = true
is_instance p heap wanted (Ref r) = has_class (λ class. assignable p class wanted) (class_at_slot heap (Ref r))
is_instance p heap wanted _ = false

abbrev pub is_wanted : {S I : Type 0} → Program → HeapView S I → Option ClassId → Slot → Bool
is_wanted p heap None slot = true
is_wanted p heap (Some class) slot = is_instance p heap class.0 slot

-- an argument of a type, as it is read; none where it is of another sort or class
abbrev pub argument : {S I : Type 0} → Program → HeapView S I → Option ClassId → JavaType → Slot → Option Slot
argument p heap wanted t slot =
    if slot_fits (sort_of t) slot && is_wanted p heap wanted slot then Some (narrowed_slot (narrow_of_type t) slot) else None

-- ---- all values

-- one more value behind others
abbrev pub with_slot : Option (List Slot) → Option Slot → Option (List Slot)
with_slot None value = None
with_slot (Some values) None = None
with_slot (Some values) (Some value) = Some (values ++ value ∷ [])

-- the arguments of types behind others; none where one lacks
abbrev pub arguments_with : {S I : Type 0} → Program → HeapView S I → (descriptor : List ℕ) → List JavaType → List Slot → Option (List Slot) → Option (List Slot)
arguments_with p heap d [] slots given = given
arguments_with p heap d (t ∷ ts) [] given = None
arguments_with p heap d (t ∷ ts) (slot ∷ slots) given =
    arguments_with p heap d ts slots (with_slot given (argument p heap (option_map as_class (class_of_type p d t)) t slot))

abbrev pub receiver : {S I : Type 0} → Program → HeapView S I → (class : ℕ) → Slot → Option (List Slot)
receiver p heap class slot = if is_instance p heap class slot then Some (slot ∷ []) else None

-- the receiver on top of what stands under the arguments; a static method has none
abbrev pub with_receiver : {S I : Type 0} → Program → HeapView S I → (static : Bool) → (class : ℕ) → List Slot → Option (List Slot)
with_receiver p heap true class below = Some []
with_receiver p heap false class [] = None
with_receiver p heap false class (slot ∷ below) = receiver p heap class slot

-- how many values a method takes that are no arguments
abbrev pub receivers : (static : Bool) → ℕ
receivers true = 0
receivers false = 1

-- how many operands a call takes off
abbrev pub taken_by : LinkedMethod → ℕ
taken_by m = length (signature m.descriptor).arguments + receivers (has STATIC m.flags)

-- room for the result on the operands that are left
abbrev pub room_for : (words : ℕ) → Option JavaType → List Slot → Bool
room_for words None rest = true
room_for words (Some t) rest = nat_le (width_of_type t + slots_size rest) words

abbrev pub where_room : Bool → Option (List Slot) → Option (List Slot)
where_room true given = given
where_room false given = None

-- the values of a call, by the operands with the top first; none where a rule of the call is broken
abbrev pub arguments_of : {S I : Type 0} → Site → HeapView S I → LinkedMethod → List Slot → Option (List Slot)
arguments_of site heap m operands =
    let p = site.program.now in
    let s = signature m.descriptor in
    let count = length s.arguments in
    let static = has STATIC m.flags in
    let below = drop count operands in
    where_room (room_for site.code.now.max_stack s.result (drop (receivers static) below))
    (arguments_with p heap m.descriptor s.arguments (reverse (take count operands)) (with_receiver p heap static m.class.0 below))

-- ---- values by their methods

-- a value that was read so
pub record IsRead (to : Option Narrow) (value : Slot) : Type 0 where
  pub slot : Slot
  pub is : value ≡ narrowed_slot to slot

abbrev pub AreRead : List (Option Narrow) → List Slot → Type 0
AreRead to values = AllZip IsRead to values

-- ---- all configurations

-- what a call of a method is given at each configuration of a group
pub record AreCalls {S I : Type 0} (site : Site) (m : ℕ) (old new : Sets I) (heap : HeapView S I) (group : GroupView S I) (calls : Conditional Call S I) : Type 0 where
  pub is_cond : IsCond call_cmp new calls
  pub scope : calls.scope ≡ path_of group
  pub at : (c : List Bool) → old.test (path_of group) c ≡ true → call_at new calls c ≡ call_given (arguments_of site heap (method_at site.program.now m) (operands_at old group.top.stack c))
