-- The shared heap: objects, statics and initialisation states that depend on the configuration, and what stands at one configuration.
use Rattle.std.specs.Prelude.{◌≡◌, ℕ, ◌<◌, ◌≤◌, Bool, true, false, List, [], ◌∷◌, ◌++◌, length, map, take, filter, flat_map, Option, Some, None, option_map, slice_get, slice_set, unwrap_or, if◌then◌else◌, nat_lt, zero, suc}
use Rattle.std.specs.List.{list_all}
use Rattle.vx_value.specs.declared.slot.Slot.{Slot}
use Rattle.vx_value.specs.declared.slot.Slot.TheVariants.{Top, Int, Long, Null, Ref, Text}
use Rattle.vx_value.specs.declared.slot.InitState.{InitState}
use Rattle.vx_value.specs.declared.slot.InitState.TheVariants.{Done}
use Rattle.vx_value.specs.Slot.{slot_cmp, init_state_cmp}
use Rattle.vx_value.specs.Texts.{text_at, IsNumber, Extends as TextsExtend}
use Rattle.vx_list.specs.Places.{item_or}
use Rattle.vx_space.specs.Sets.{Sets}
use Rattle.vx_cond.specs.Cond.{Conditional, IsCond, cond_at, cond_ids}
use Rattle.vx_cond.specs.Row.{AreConds}
use Rattle.vx_cond.specs.Slots.{slot_at}
use Rattle.vx_java.specs.FirstObjects.{first_words, literal_object}
use Rattle.vx_java.specs.Machine.{Value, Object, length_bound, no_object}
use Rattle.vx_java.specs.Machine.{Top as TopValue, Int as IntValue, Long as LongValue, Null as NullValue, Ref as RefValue, Text as TextValue}
use Rattle.vx_link.specs.declared.program.LinkedField.{LinkedField}
use Rattle.vx_link.specs.declared.program.Program.{Program}
use Rattle.vx_references.specs.Named.{class_table}
use Rattle.vx_value.specs.declared.ids.ClassId.{ClassId}
use Rattle.vx_heap.specs.Cells.{AreCells, cell_ids, cells_at}
use Rattle.vx_heap.specs.declared.object.HeapObject.{HeapObject}

-- a `Heap` as contracts see it: the objects in the order in which they were made, a value per field and an initialisation state per class, the texts by their numbers, the set of all configurations that run, the objects of the literals by class and pool entry, the class that each entry names in the program, and the array for main
pub record HeapView (S I : Type 0) : Type 0 where
  pub objects : List (HeapObject S I)
  pub statics : List (Conditional Slot S I)
  pub inits : List (Conditional InitState S I)
  pub texts : List (List ℕ)
  pub allowed : I
  pub literals : List (List ℕ)
  pub resolved : List (List (Option ClassId))
  pub words : ℕ

-- ---- names

abbrev pub count_if : Bool → ℕ → ℕ
count_if true n = suc n
count_if false n = n

-- the name of a reference at a configuration: how many objects before it are present there
abbrev pub name_at : {S I : Type 0} → Sets I → List (HeapObject S I) → List Bool → ℕ → ℕ
name_at sets [] c i = 0
name_at sets (o ∷ os) c zero = 0
name_at sets (o ∷ os) c (suc i) = count_if (sets.test o.presence c) (name_at sets os c i)

-- the plain value of a slot at a configuration
abbrev pub value_of : {S I : Type 0} → Sets I → HeapView S I → List Bool → Slot → Value
value_of sets heap c Top = TopValue
value_of sets heap c (Int n) = IntValue n
value_of sets heap c (Long n) = LongValue n
value_of sets heap c Null = NullValue
value_of sets heap c (Ref i) = RefValue (name_at sets heap.objects c i)
value_of sets heap c (Text n) = TextValue (text_at heap.texts n)

-- ---- what stands at a configuration

abbrev pub object_of : {S I : Type 0} → Sets I → HeapView S I → List Bool → HeapObject S I → Object
object_of sets heap c o = record { class = o.class.0; size = o.length; cells = map (value_of sets heap c) (cells_at sets o.cells c) }

-- the objects that are present, in order
abbrev pub objects_at : {S I : Type 0} → Sets I → HeapView S I → List Bool → List Object
objects_at sets heap c = map (object_of sets heap c) (filter (λ o. sets.test o.presence c) heap.objects)

abbrev pub statics_at : {S I : Type 0} → Sets I → HeapView S I → List Bool → List Value
statics_at sets heap c = map (λ cond. value_of sets heap c (slot_at sets cond c)) heap.statics

abbrev pub inits_at : {S I : Type 0} → Sets I → HeapView S I → List Bool → List InitState
inits_at sets heap c = map (λ cond. unwrap_or (cond_at sets cond c) Done) heap.inits

-- the plain heap, statics and initialisation states
pub record Globals : Type 0 where
  pub objects : List Object
  pub statics : List Value
  pub inits : List InitState

abbrev pub globals_at : {S I : Type 0} → Sets I → HeapView S I → List Bool → Globals
globals_at sets heap c = record { objects = objects_at sets heap c; statics = statics_at sets heap c; inits = inits_at sets heap c }

-- ---- validity

-- a slot names what is there: an object that is present at the configuration, a text of the table
abbrev pub is_object_held : {S I : Type 0} → Sets I → List Bool → Option (HeapObject S I) → Bool
is_object_held sets c None = false
is_object_held sets c (Some o) = sets.test o.presence c

abbrev pub is_held : {S I : Type 0} → Sets I → HeapView S I → List Bool → Slot → Bool
is_held sets heap c (Ref i) = is_object_held sets c (slice_get heap.objects i)
is_held sets heap c (Text n) = nat_lt n (length heap.texts)
is_held sets heap c _ = true

abbrev pub are_held : {S I : Type 0} → Sets I → HeapView S I → List Bool → List Slot → Bool
are_held sets heap c slots = list_all (is_held sets heap c) slots

pub record IsObject {S I : Type 0} (sets : Sets I) (o : HeapObject S I) : Type 0 where
  pub known : sets.is_known o.presence ≡ true
  pub cells : AreCells sets o.presence o.cells
  pub short : o.length ≤ length_bound
  -- an array has a cell for each of its elements; any other object has the length 0
  pub sized : o.length ≤ length o.cells

abbrev pub AreObjects : {S I : Type 0} → Sets I → List (HeapObject S I) → Type 0
AreObjects sets [] = Unit {0}
AreObjects sets (o ∷ os) = IsObject sets o × AreObjects sets os

-- the cells of each object that is there name what is there
abbrev pub object_holds : {S I : Type 0} → Sets I → HeapView S I → List Bool → HeapObject S I → Bool
object_holds sets heap c o = if sets.test o.presence c then are_held sets heap c (cells_at sets o.cells c) else true

abbrev pub objects_hold : {S I : Type 0} → Sets I → HeapView S I → List Bool → Bool
objects_hold sets heap c = list_all (object_holds sets heap c) heap.objects

abbrev pub statics_hold : {S I : Type 0} → Sets I → HeapView S I → List Bool → Bool
statics_hold sets heap c = are_held sets heap c (map (λ cond. slot_at sets cond c) heap.statics)

-- over this space
pub record HeapFacts {S I : Type 0} (sets : Sets I) (heap : HeapView S I) : Type 0 where
  pub allowed_known : sets.is_known heap.allowed ≡ true
  pub objects : AreObjects sets heap.objects
  pub statics : AreConds slot_cmp sets heap.allowed heap.statics
  pub inits : AreConds init_state_cmp sets heap.allowed heap.inits
  pub objects_held : (c : List Bool) → objects_hold sets heap c ≡ true
  pub statics_held : (c : List Bool) → statics_hold sets heap c ≡ true

-- the same, as a word that tactics don't take apart
unfoldable pub IsHeap : {S I : Type 0} → Sets I → HeapView S I → Type 0
IsHeap sets heap = HeapFacts sets heap

-- ---- the ids held

abbrev pub object_ids : {S I : Type 0} → HeapObject S I → List I
object_ids o = o.presence ∷ flat_map cell_ids o.cells

abbrev pub heap_ids : {S I : Type 0} → HeapView S I → List I
heap_ids heap = heap.allowed ∷ (flat_map object_ids heap.objects ++ (flat_map cond_ids heap.statics ++ flat_map cond_ids heap.inits))

-- ---- the program

-- the objects are there in each configuration that runs
abbrev pub AreEverywhere : {S I : Type 0} → I → List (HeapObject S I) → Type 0
AreEverywhere allowed [] = Unit {0}
AreEverywhere allowed (o ∷ os) = (o.presence ≡ allowed) × AreEverywhere allowed os

-- the object of each pool entry that is a literal
abbrev pub literal_table : Program → List (List ℕ)
literal_table p = map (λ c. map (literal_object p c.pool) c.pool.entries) p.classes

-- it was made for this program: a value per field, a state per class, the classes that its entries name, and the first objects, which are there everywhere
pub record IsHeapFor {S I : Type 0} (p : Program) (heap : HeapView S I) : Type 0 where
  pub static_count : length heap.statics ≡ length p.fields
  pub init_count : length heap.inits ≡ length p.classes
  pub literals : heap.literals ≡ literal_table p
  pub resolved : heap.resolved ≡ class_table p
  pub words : heap.words ≡ first_words p
  pub enough : first_words p < length heap.objects
  pub first : AreEverywhere heap.allowed (take (suc (first_words p)) heap.objects)

-- ---- what calls do

-- the object of a reference, the conditional value of a field, and the state of a class
abbrev pub no_heap_object : {S I : Type 0} → I → HeapObject S I
no_heap_object scope = record { class = record { 0 = 0 }; length = 0; presence = scope; cells = [] }

abbrev pub object_in : {S I : Type 0} → HeapView S I → ℕ → HeapObject S I
object_in heap reference = item_or heap.objects reference (no_heap_object heap.allowed)

-- the class of the object that a slot names, if it names one
abbrev pub class_at_slot : {S I : Type 0} → HeapView S I → Slot → Option ClassId
class_at_slot heap (Ref i) = option_map (λ o. o.class) (slice_get heap.objects i)
class_at_slot heap _ = None

abbrev pub no_cond : {T S I : Type 0} → I → Conditional T S I
no_cond scope = record { scope = scope; leaves = [] }

abbrev pub static_of : {S I : Type 0} → HeapView S I → ℕ → Conditional Slot S I
static_of heap field = item_or heap.statics field (no_cond heap.allowed)

abbrev pub init_of : {S I : Type 0} → HeapView S I → ℕ → Conditional InitState S I
init_of heap class = item_or heap.inits class (no_cond heap.allowed)

-- a value was written to a static field: in the value's scope the field has it, and nothing else changed
pub record IsStaticWritten {S I : Type 0} (old new : Sets I) (before : HeapView S I) (field : ℕ) (value : Conditional Slot S I) (after : HeapView S I) : Type 0 where
  pub is_heap : IsHeap new after
  pub same : after ≡ record before { statics = after.statics }
  pub count : length after.statics ≡ length before.statics
  pub inside : (c : List Bool) → old.test value.scope c ≡ true → globals_at new after c ≡ record (globals_at old before c) { statics = slice_set (statics_at old before c) field (value_of old before c (slot_at old value c)) }
  pub outside : (c : List Bool) → old.test value.scope c ≡ false → globals_at new after c ≡ globals_at old before c

-- a class has another state: in the scope of the states it has these, and nothing else changed
pub record IsInitWritten {S I : Type 0} (old new : Sets I) (before : HeapView S I) (class : ℕ) (states : Conditional InitState S I) (after : HeapView S I) : Type 0 where
  pub is_heap : IsHeap new after
  pub same : after ≡ record before { inits = after.inits }
  pub count : length after.inits ≡ length before.inits
  pub inside : (c : List Bool) → old.test states.scope c ≡ true → globals_at new after c ≡ record (globals_at old before c) { inits = slice_set (inits_at old before c) class (unwrap_or (cond_at old states c) Done) }
  pub outside : (c : List Bool) → old.test states.scope c ≡ false → globals_at new after c ≡ globals_at old before c

-- a value was read inside a path: it is the field's there, and names what is there
pub record IsStaticRead {S I : Type 0} (old new : Sets I) (heap : HeapView S I) (field : ℕ) (path : I) (value : Conditional Slot S I) : Type 0 where
  pub is_cond : IsCond slot_cmp new value
  pub scope : value.scope ≡ path
  pub at : (c : List Bool) → old.test path c ≡ true → value_of new heap c (slot_at new value c) ≡ item_or (statics_at old heap c) field TopValue
  pub held : (c : List Bool) → old.test path c ≡ true → is_held new heap c (slot_at new value c) ≡ true

-- a cell was read inside a path: the value is the cell's there, and names what is there
pub record IsCellRead {S I : Type 0} (old new : Sets I) (heap : HeapView S I) (reference cell : ℕ) (path : I) (value : Conditional Slot S I) : Type 0 where
  pub is_cond : IsCond slot_cmp new value
  pub scope : value.scope ≡ path
  pub at : (c : List Bool) → old.test path c ≡ true → value_of new heap c (slot_at new value c) ≡ item_or (item_or (objects_at old heap c) (name_at old heap.objects c reference) no_object).cells cell TopValue
  pub held : (c : List Bool) → old.test path c ≡ true → is_held new heap c (slot_at new value c) ≡ true

-- a text was put: its number has it, each earlier number keeps its own, and nothing else changed
pub record IsTextPut {S I : Type 0} (before : HeapView S I) (units : List ℕ) (number : ℕ) (after : HeapView S I) : Type 0 where
  pub same : after ≡ record before { texts = after.texts }
  pub text : IsNumber after.texts number units
  pub earlier : TextsExtend before.texts after.texts

-- it changes no plain heap, static or initialisation state, over any space
abbrev pub KeepsPlain : {S I : Type 0} → HeapView S I → HeapView S I → Type 0
KeepsPlain {I = I} before after =
    (sets : Sets I) → IsHeap sets before → IsHeap sets after × ((c : List Bool) → globals_at sets after c ≡ globals_at sets before c)

-- the object of a pool entry
abbrev pub literal_at : {S I : Type 0} → HeapView S I → (class entry : ℕ) → ℕ
literal_at heap class entry = item_or (item_or heap.literals class []) entry 0

-- what the table says of a pool entry, if it has the entry
abbrev pub resolved_in : {S I : Type 0} → HeapView S I → (class entry : ℕ) → Option (Option ClassId)
resolved_in heap class entry = slice_get (item_or heap.resolved class []) entry

-- each option that a field belongs to is one of the space
abbrev pub has_option : (options : ℕ) → Option ℕ → Bool
has_option options None = true
has_option options (Some option) = nat_lt option options

abbrev pub has_options : (options : ℕ) → List LinkedField → Bool
has_options options fields = list_all (λ f. has_option options f.option) fields
