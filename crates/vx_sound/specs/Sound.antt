-- What a linked program keeps to, as far as a verdict over it rests on that (JVMS 4.5, 4.6, 4.7.3, 4.9.2, 4.10, 5.3, 5.4, 5.5).
use Rattle.std.specs.List.{list_all}
use Rattle.std.specs.Prelude.{Bool, List, None, Option, Some, [], codes, false, find, int_le, is_some, length, nat_le, nat_lt, negsuc, not, option_map, pos, true, ℕ, ℤ, ◌&&◌, ◌<◌, ◌==◌, ◌∷◌, ◌≡◌, ◌≤◌}
use Prim.Native.String.{String}
use Rattle.vx_class.specs.declared.class_file.Code.{Code}
use Rattle.vx_pool.specs.Instructions.{dimensions, is_start}
use Rattle.vx_pool.specs.Lookups.{entry_of}
use Rattle.vx_java.specs.FirstObjects.{core_object, field_default, first_boolean, first_integer, first_words, literal_object, new_cells, string_object}
use Rattle.vx_java.specs.Machine.{Int, Object, Top, no_object}
use Rattle.vx_java.specs.NativeForms.{form_of, has_form}
use Rattle.vx_java.specs.Operation.{operation_of}
use Rattle.vx_java.specs.Step.{Config, first_static}
use Rattle.vx_java.specs.declared.operation.Operation.TheVariants.{NewGrid}
use Rattle.vx_jump_targets.specs.Placed.{starts_in}
use Rattle.vx_kept_facts.specs.Kept.{is_throwable}
use Rattle.vx_kept_facts.specs.Law.{IsRunnable}
use Rattle.vx_link.specs.ClassNames.{array_class, class_element, class_of_name, core_class, object_class}
use Rattle.vx_link.specs.Hierarchy.{is_among, superclasses, superinterfaces}
use Rattle.vx_link.specs.Names.{class_name}
use Rattle.vx_link.specs.Parts.{class_at, class_count, field_at, fields_of, is_interface, is_static_field, method_at, methods_of}
use Rattle.vx_link.specs.declared.program.Program.{Program}
use Rattle.vx_list.specs.Places.{item_or}
use Rattle.vx_opcode.specs.Decode.{instruction_at}
use Rattle.vx_opcode.specs.declared.instruction.Instruction.{Instruction}
use Rattle.vx_pool.specs.declared.pool.Entry.TheVariants.{Class as ClassEntry, Text as TextEntry}
use Rattle.vx_sound.specs.Typed.{IsTypedHeap, IsTypedObject, first_heap, has_field}
use Rattle.vx_sound.specs.Values.{type_of_class, type_of_field, type_of_value}
use Rattle.vx_types.specs.Fits.{fits}
use Rattle.vx_types.specs.Ranked.{IsRanked}
use Rattle.vx_types.specs.Rows.{pool_of}
use Rattle.vx_types.specs.Types.{class_type}
use Rattle.vx_types.specs.declared.types.VerType.{VerType}
use Rattle.vx_types.specs.declared.types.VerType.TheVariants as is
use Rattle.vx_verify.specs.Typing.{values_given}

-- ---- classes

-- Object is there, and above each class; what is above a class is there; what a class implements is an interface, what it extends is none, and an interface extends Object
pub record HasHierarchy (p : Program) : Type 0 where
  pub ranked : IsRanked p
  pub names : (c : ℕ) → c < class_count p → class_of_name p (class_at p c).name ≡ Some c
  pub root : object_class p < class_count p
  pub object : (c : ℕ) → c < class_count p → is_among (object_class p) (superclasses p c) ≡ true
  pub within : (c d : ℕ) → c < class_count p → is_among d (superclasses p c) ≡ true → d < class_count p
  pub interfaces : (c i : ℕ) → is_among i (superinterfaces p c) ≡ true → is_interface p i ≡ true
  pub classes : (c d : ℕ) → is_among d (superclasses p c) ≡ true → ¬ (d ≡ c) → is_interface p d ≡ false
  pub roots : (c d : ℕ) → is_interface p c ≡ true → is_among d (superclasses p c) ≡ true → ¬ (d ≡ c) → d ≡ object_class p

-- the core classes that values, instructions and native methods name
abbrev pub named_classes : List String
named_classes =
    "java/lang/Object" ∷ "java/lang/String" ∷ "java/lang/StringBuilder" ∷ "java/lang/Class" ∷ "java/lang/Integer" ∷ "java/lang/Boolean"
    ∷ "java/lang/Enum" ∷ "java/lang/Throwable" ∷ "java/lang/ExceptionInInitializerError" ∷ "java/io/PrintStream" ∷ "java/lang/Number"
    ∷ []

-- the interfaces that every array implements
abbrev pub array_interfaces : List String
array_interfaces = "java/lang/Cloneable" ∷ "java/io/Serializable" ∷ []

abbrev pub is_class_there : Program → (interface : Bool) → Option ℕ → Bool
is_class_there p true None = false
is_class_there p true (Some c) = is_interface p c
is_class_there p false None = false
is_class_there p false (Some c) = not (is_interface p c)

pub record HasCore (p : Program) : Type 0 where
  pub classes : list_all (λ name. is_class_there p false (class_of_name p (codes name))) named_classes ≡ true
  pub interfaces : list_all (λ name. is_class_there p true (class_of_name p (codes name))) array_interfaces ≡ true

-- ---- members

-- what a class declares is its own, and there; a field of an interface is static, and Object has no field; the local variables of a method have room for what it is given
pub record HasMembers (p : Program) : Type 0 where
  pub methods : (c m : ℕ) → is_among m (methods_of p c) ≡ true → (method_at p m).class.0 ≡ c
  pub fields : (c f : ℕ) → is_among f (fields_of p c) ≡ true → (field_at p f).class.0 ≡ c
  pub within : (c f : ℕ) → is_among f (fields_of p c) ≡ true → f < length p.fields
  pub constants : (c f : ℕ) → is_among f (fields_of p c) ≡ true → is_interface p c ≡ true → is_static_field p f ≡ true
  pub root : fields_of p (object_class p) ≡ []
  pub room : (m : ℕ) (code : Code) → (method_at p m).code ≡ Some code → length (values_given p m) ≤ code.max_locals

-- a field has a cell of its own in each object that has it, and the cell begins with the default of its type
pub record HasCells (p : Program) : Type 0 where
  pub own : (c f g : ℕ) → f < length p.fields → g < length p.fields → has_field p c f ≡ true → has_field p c g ≡ true
      → (field_at p f).cell ≡ (field_at p g).cell → f ≡ g
  pub defaults : (c f : ℕ) → f < length p.fields → has_field p c f ≡ true → item_or (new_cells p c) (field_at p f).cell Top ≡ field_default (field_at p f)

-- ---- core objects

-- a cell of the objects of a core class is that of a field of a type
pub record IsCoreCell (p : Program) (name : String) (place : ℕ) (t : VerType) : Type 0 where
  pub field : ℕ
  pub within : field < length p.fields
  pub there : (c : ℕ) → is_among (core_class p name) (superclasses p c) ≡ true → has_field p c field ≡ true
  pub cell : (field_at p field).cell ≡ place
  pub type : type_of_field p field ≡ t

-- the cells that instructions and native methods read and write, and the objects that are made with just their cells
pub record HasCoreObjects (p : Program) : Type 0 where
  pub string : IsCoreCell p "java/lang/String" 0 is.Top
  pub builder : IsCoreCell p "java/lang/StringBuilder" 0 is.Top
  pub name : IsCoreCell p "java/lang/Enum" 0 (class_type p (core_class p "java/lang/String"))
  pub ordinal : IsCoreCell p "java/lang/Enum" 1 is.Int
  pub message : IsCoreCell p "java/lang/Throwable" 0 (class_type p (core_class p "java/lang/String"))
  pub cause : IsCoreCell p "java/lang/Throwable" 1 (class_type p (core_class p "java/lang/Throwable"))
  pub strings : (heap : List Object) (units : List ℕ) → IsTypedObject p heap (string_object p units)
  pub integers : (heap : List Object) (n : ℤ) → IsTypedObject p heap (core_object p "java/lang/Integer" (Int n ∷ []))
  pub wraps : is_throwable p (core_class p "java/lang/ExceptionInInitializerError") ≡ true

-- ---- what runs begin with

-- a first object of a class stands there
pub record IsFirstOf (p : Program) (r c : ℕ) : Type 0 where
  pub there : r < length (first_heap p)
  pub class : (item_or (first_heap p) r no_object).class ≡ c

-- the first objects are of their types, and each static field begins with a value of its type in each configuration
pub record HasFirstValues (p : Program) : Type 0 where
  pub heap : IsTypedHeap p (first_heap p)
  pub statics : (c : Config) (f : ℕ) → is_static_field p f ≡ true
      → fits p (type_of_value p (first_heap p) (first_static p c (field_at p f))) (type_of_field p f) ≡ true
  pub texts : (c i j : ℕ) → entry_of (class_at p c).pool i ≡ Some (TextEntry j) → IsFirstOf p (literal_object p (class_at p c).pool (TextEntry j)) (core_class p "java/lang/String")
  pub classes : (c i j : ℕ) → entry_of (class_at p c).pool i ≡ Some (ClassEntry j) → IsFirstOf p (literal_object p (class_at p c).pool (ClassEntry j)) (core_class p "java/lang/Class")
  pub integers : (n : ℤ) → (int_le (negsuc 127) n && int_le n (pos 127)) ≡ true → IsFirstOf p (first_integer n) (core_class p "java/lang/Integer")
  pub words : IsFirstOf p (first_words p) (array_class p 1 (class_element (core_class p "java/lang/String")))
  pub booleans : (n : ℕ) → n ≤ 1 → IsFirstOf p (first_boolean n) (core_class p "java/lang/Boolean")

-- ---- methods that are begun

-- the classes that have native methods of their objects, by the first numbers of these and those behind the last
abbrev pub native_classes : List (ℕ × ℕ × String)
native_classes =
    (1, 3, "java/lang/Object") ∷ (3, 26, "java/lang/String") ∷ (26, 40, "java/lang/StringBuilder") ∷ (40, 41, "java/lang/Class") ∷ (41, 55, "java/io/PrintStream")
    ∷ (58, 59, "java/lang/Number") ∷ (59, 69, "java/lang/Integer") ∷ (69, 74, "java/lang/Boolean") ∷ (80, 86, "java/lang/Enum") ∷ (86, 93, "java/lang/Throwable")
    ∷ []

abbrev pub class_of_number : ℕ → Option String
class_of_number n = option_map (λ row. row.2) (find (λ row. nat_le row.0 n && nat_lt n row.1) native_classes)

-- what initialises a class is given nothing, main an array of Strings
pub record HasForms (p : Program) : Type 0 where
  pub initialisers : (c : ℕ) → c < class_count p → values_given p (class_at p c).initialiser.0 ≡ []
  pub main : values_given p p.main.0 ≡ type_of_class p (array_class p 1 (class_element (core_class p "java/lang/String"))) ∷ []

-- a class is a core class or below it, and no interface
pub record IsBelowCore (p : Program) (class : ℕ) (name : String) : Type 0 where
  pub proper : is_interface p class ≡ false
  pub below : is_among (core_class p name) (superclasses p class) ≡ true

-- a native method has the form of its number, which there is, and stands in the class of its number or below it, as the constructors of exceptions do
pub record HasNatives (p : Program) : Type 0 where
  pub forms : (m : ℕ) → has_form (method_at p m) ≡ true
  pub numbers : (m : ℕ) → ((method_at p m).native == 0) ≡ false → is_some (form_of (method_at p m).native) ≡ true
  pub classes : (m : ℕ) (name : String) → class_of_number (method_at p m).native ≡ Some name → IsBelowCore p (method_at p m).class.0 name

-- ---- arrays with their parts

-- an instruction that makes arrays with their parts gives a length for one dimension at least, and for no more than the descriptor that it names has
pub record HasGrids (p : Program) : Type 0 where
  pub lengths : (m : ℕ) (code : Code) (at : ℕ) (i : Instruction) (index d : ℕ) → (method_at p m).code ≡ Some code → is_start (starts_in code) at ≡ true → instruction_at code.bytes at ≡ Some i
      → operation_of i ≡ NewGrid index d → (1 ≤ d) × (d ≤ dimensions (class_name (pool_of p m) index))

-- ---- the whole

pub record IsSound (p : Program) : Type 0 where
  pub runnable : IsRunnable p
  pub hierarchy : HasHierarchy p
  pub core : HasCore p
  pub members : HasMembers p
  pub cells : HasCells p
  pub objects : HasCoreObjects p
  pub first : HasFirstValues p
  pub forms : HasForms p
  pub natives : HasNatives p
  pub grids : HasGrids p
