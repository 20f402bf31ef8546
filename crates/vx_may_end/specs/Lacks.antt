-- What an instruction may lack: each end as unsupported that an attempt of it can come to, in whatever state (own, by the rows of JVMS 6.5).
use Rattle.std.specs.List.{filter_map, range_with_len}
use Rattle.std.specs.Prelude.{Bool, List, None, Option, Some, [], codes, false, filter, flat_map, if◌then◌else◌, map, not, true, unwrap_or, ℕ, ◌&&◌, ◌++◌, ◌-◌, ◌==◌, ◌||◌, ◌∷◌}
use Rattle.vx_class.specs.Members.{ABSTRACT, STATIC}
use Rattle.vx_class.specs.declared.class_file.Code.{Code}
use Rattle.vx_pool.specs.Lookups.{entry_of}
use Rattle.vx_desc.specs.Descriptors.{field_type}
use Rattle.vx_desc.specs.Names.{is_init}
use Rattle.vx_desc.specs.declared.java_type.JavaType.{JavaType}
use Rattle.vx_java.specs.Arrays.{elements_of_numbers}
use Rattle.vx_java.specs.Calls.{member_text}
use Rattle.vx_java.specs.Checks.{same_bool, sort_of}
use Rattle.vx_java.specs.Fields.{field_text}
use Rattle.vx_java.specs.Initialisation.{blocked}
use Rattle.vx_java.specs.Machine.{method_text}
use Rattle.vx_java.specs.Operation.{class_word, constant_word, field_word, float_word, method_word, native_word, operation_of}
use Rattle.vx_java.specs.Selection.{select, select_special, selected_if_concrete}
use Rattle.vx_java.specs.declared.operation.Mode.{Mode}
use Rattle.vx_java.specs.declared.operation.Mode.TheVariants.{Interface, Special, Static, Virtual}
use Rattle.vx_java.specs.declared.operation.Operation.{Operation}
use Rattle.vx_java.specs.declared.operation.Operation.TheVariants.{CheckCast, GetField, GetStatic, InstanceOf, Invoke, New, NewGrid, NewPrimitives, NewReferences, PushEntry, PutField, PutStatic, Refuse}
use Rattle.vx_java.specs.declared.operation.Sort.{Sort}
use Rattle.vx_java.specs.declared.selected.Selected.{Selected}
use Rattle.vx_java.specs.declared.selected.Selected.TheVariants.{Abstract, Conflict, Method}
use Rattle.vx_link.specs.Assignability.{above_arrays, assignable}
use Rattle.vx_link.specs.ClassNames.{class_named, class_text, double_element, float_element, int_element, is_array, object_class}
use Rattle.vx_link.specs.Hierarchy.{is_among, is_proper_superclass, superclass_of, superclasses}
use Rattle.vx_link.specs.Names.{Member, class_name, member, utf8}
use Rattle.vx_link.specs.Parts.{PRIVATE, class_at, class_count, field_at, has, is_interface, is_static_field, method_at}
use Rattle.vx_link.specs.Resolution.{is_array_clone, resolve_field, resolve_method}
use Rattle.vx_link.specs.declared.program.Program.{Program}
use Rattle.vx_list.specs.Places.{item_or}
use Rattle.vx_opcode.specs.Decode.{instruction_at}
use Rattle.vx_opcode.specs.declared.instruction.Instruction.{Instruction}
use Rattle.vx_pool.specs.declared.pool.Entry.{Entry}
use Rattle.vx_pool.specs.declared.pool.Entry.TheVariants as entry
use Rattle.vx_pool.specs.declared.pool.Pool.{Pool}
use Rattle.vx_may_end.specs.declared.lack.Lack.{Lack}
use Rattle.vx_may_end.specs.declared.lack.When.{When}
use Rattle.vx_may_end.specs.declared.lack.When.TheVariants.{Always, On, Perhaps}

abbrev pub lacking : When → (word : ℕ) → (what : List ℕ) → Lack
lacking when word what = record { word = word; what = what; when = when }

-- one lack alone
abbrev pub lack : When → (word : ℕ) → (what : List ℕ) → List Lack
lack when word what = lacking when word what ∷ []

-- ---- classes

-- a class that an instruction names: it may not be there, and else more may be lacking
abbrev pub of_there : When → (name : List ℕ) → Option ℕ → (ℕ → List Lack) → List Lack
of_there when name None more = lack when class_word name
of_there when name (Some c) more = more c

abbrev pub of_class : Program → When → (name : List ℕ) → (ℕ → List Lack) → List Lack
of_class p when name more = of_there when name (class_named p name) more

abbrev pub of_blocking : Program → ℕ → Lack
of_blocking p i = lacking Perhaps class_word (class_text p i)

-- a class that is initialised: the interface that blocks it, and those that block the classes above it
abbrev pub of_initialisation : Program → ℕ → List Lack
of_initialisation p c = map (of_blocking p) (filter_map (blocked p) (superclasses p c))

-- a new object
abbrev pub of_new : Program → ℕ → List Lack
of_new p c = if has ABSTRACT (class_at p c).flags || is_interface p c then [] else of_initialisation p c

-- newarray
abbrev pub of_primitives : ℕ → List Lack
of_primitives number =
    let element = item_or elements_of_numbers (number - 4) int_element in
    if (element == float_element) || (element == double_element) then lack Always float_word (codes "-") else []

-- what ldc loads
abbrev pub of_entry : Program → Pool → Option Entry → List Lack
of_entry p pool (Some (entry.Class i)) = of_class p Always (utf8 pool i) (λ c. [])
of_entry p pool (Some (entry.Float n)) = lack Always float_word (codes "-")
of_entry p pool (Some (entry.Double n)) = lack Always float_word (codes "-")
of_entry p pool (Some (entry.MethodHandle kind i)) = lack Always constant_word (codes "-")
of_entry p pool (Some (entry.MethodType i)) = lack Always constant_word (codes "-")
of_entry p pool _ = []

-- ---- fields

-- a static field's class is initialised
abbrev pub of_found : Program → (static : Bool) → ℕ → List Lack
of_found p true f = if is_static_field p f then of_initialisation p (field_at p f).class.0 else []
of_found p false f = []

abbrev pub of_field_there : Program → (static : Bool) → Member → Option ℕ → List Lack
of_field_there p static m None = lack Always field_word (field_text m)
of_field_there p static m (Some f) = of_found p static f

abbrev pub of_sort : Option Sort → List Lack → List Lack
of_sort None more = lack Always float_word (codes "-")
of_sort (Some sort) more = more

abbrev pub of_type : Program → (static : Bool) → Member → Option JavaType → List Lack
of_type p static m None = []
of_type p static m (Some t) =
    of_sort (sort_of t) (of_class p Always m.class (λ named. of_field_there p static m (resolve_field p named m.name m.descriptor)))

abbrev pub of_field : Program → (static : Bool) → Member → List Lack
of_field p static m = of_type p static m (field_type m.descriptor)

-- ---- calls

-- a method without code has to be a native method of the machine
abbrev pub of_code : Program → When → ℕ → Option Code → List Lack
of_code p when m None = if (method_at p m).native == 0 then lack when native_word (method_text p (method_at p m)) else []
of_code p when m (Some code) = []

abbrev pub of_selected : Program → When → Selected → List Lack
of_selected p when (Method m) = of_code p when m.0 (method_at p m.0).code
of_selected p when Abstract = []
of_selected p when Conflict = []

-- an array may stand where this class is named
abbrev pub takes_arrays : Program → ℕ → Bool
takes_arrays p named = is_array p named || is_among named (above_arrays p)

-- the classes whose objects may stand where a class is named; Object is there for all arrays, which have its methods
abbrev pub receivers : Program → ℕ → List ℕ
receivers p named =
    (if takes_arrays p named then object_class p ∷ [] else []) ++ filter (λ c. assignable p c named) (range_with_len 0 (class_count p))

-- a call whose method is selected by the receiver
abbrev pub of_receiver : Program → (resolved : ℕ) → ℕ → List Lack
of_receiver p resolved c = of_selected p (On (record { 0 = c })) (select p c resolved)

abbrev pub of_receivers : Program → (named resolved : ℕ) → List Lack
of_receivers p named resolved = flat_map (of_receiver p resolved) (receivers p named)

-- what invokespecial selects in a method of a class
abbrev pub special_selection : Program → (current : ℕ) → Member → (named resolved : ℕ) → Selected
special_selection p current m named resolved =
    if m.by_interface then select_special p named resolved
    else if not (is_init m.name) && is_proper_superclass p named current then select_special p (unwrap_or (superclass_of p current) 0) resolved
    else selected_if_concrete p resolved

abbrev pub of_resolved : Program → (current : ℕ) → Mode → Member → (named resolved : ℕ) → List Lack
of_resolved p current Static m named resolved =
    if has STATIC (method_at p resolved).flags
    then of_initialisation p (method_at p resolved).class.0 ++ of_selected p Always (selected_if_concrete p resolved)
    else []
of_resolved p current Special m named resolved =
    if has STATIC (method_at p resolved).flags then [] else of_selected p Always (special_selection p current m named resolved)
of_resolved p current Interface m named resolved =
    if has STATIC (method_at p resolved).flags || has PRIVATE (method_at p resolved).flags then [] else of_receivers p named resolved
of_resolved p current Virtual m named resolved =
    if has STATIC (method_at p resolved).flags then [] else of_receivers p named resolved

abbrev pub of_method_there : Program → (current : ℕ) → Mode → Member → (named : ℕ) → Option ℕ → List Lack
of_method_there p current mode m named None = lack Always method_word (member_text m)
of_method_there p current mode m named (Some resolved) = of_resolved p current mode m named resolved

-- the clone of an array lacks nothing
abbrev pub of_named : Program → (current : ℕ) → Mode → Member → (named : ℕ) → List Lack
of_named p current mode m named =
    if is_array_clone p named m.name m.descriptor then []
    else of_method_there p current mode m named (resolve_method p named m.name m.descriptor)

-- a Methodref names a class, an InterfaceMethodref an interface
abbrev pub of_class_there : Program → (current : ℕ) → Mode → Member → (named : ℕ) → List Lack
of_class_there p current mode m named = if same_bool m.by_interface (is_interface p named) then of_named p current mode m named else []

abbrev pub of_call : Program → (current : ℕ) → Mode → Member → List Lack
of_call p current mode m = of_class p Always m.class (of_class_there p current mode m)

-- ---- instructions

-- an operation in a method of a class
abbrev pub lacks_of : Program → Pool → (current : ℕ) → Operation → List Lack
lacks_of p pool current (PushEntry i) = of_entry p pool (entry_of pool i)
lacks_of p pool current (GetStatic i) = of_field p true (member pool i)
lacks_of p pool current (PutStatic i) = of_field p true (member pool i)
lacks_of p pool current (GetField i) = of_field p false (member pool i)
lacks_of p pool current (PutField i) = of_field p false (member pool i)
lacks_of p pool current (Invoke mode i) = of_call p current mode (member pool i)
lacks_of p pool current (New i) = of_class p Always (class_name pool i) (of_new p)
lacks_of p pool current (NewPrimitives number) = of_primitives number
lacks_of p pool current (NewReferences i) = of_class p Always (class_name pool i) (λ c. [])
lacks_of p pool current (NewGrid i dimensions) = of_class p Always (class_name pool i) (λ c. [])
lacks_of p pool current (CheckCast i) = of_class p Perhaps (class_name pool i) (λ c. [])
lacks_of p pool current (InstanceOf i) = of_class p Perhaps (class_name pool i) (λ c. [])
lacks_of p pool current (Refuse word) = lack Always word (codes "-")
lacks_of p pool current _ = []

abbrev pub lacks_of_instruction : Program → (current : ℕ) → Option Instruction → List Lack
lacks_of_instruction p current None = []
lacks_of_instruction p current (Some i) = lacks_of p (class_at p current).pool current (operation_of i)

abbrev pub lacks_in : Program → (current : ℕ) → Option Code → (position : ℕ) → List Lack
lacks_in p current None position = []
lacks_in p current (Some code) position = lacks_of_instruction p current (instruction_at code.bytes position)

-- the instruction at a position of a method
abbrev pub lacks_at : Program → (method position : ℕ) → List Lack
lacks_at p m position = lacks_in p (method_at p m).class.0 (method_at p m).code position
