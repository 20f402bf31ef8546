-- The first objects by their classes.
use Rattle.std.specs.List.{AllZip}
use Rattle.std.specs.Prelude.{List, Some, [], length, negsuc, pos, suc, true, zero, ℕ, ℤ, ◌≡◌, ◌++◌, ◌-ℤ◌, ◌∷◌}
use Rattle.vx_initial_heap.specs.First.{is_cell_among, object_in}
use Rattle.vx_initial_heap.specs.declared.core_classes.CoreClasses.{CoreClasses}
use Rattle.vx_initial_heap.specs.Literals.{first_of}
use Rattle.vx_initial_heap.specs.declared.literal.Literal.{Literal}
use Rattle.vx_initial_heap.specs.declared.objects.FirstObject.{FirstObject}
use Rattle.vx_java.specs.FirstObjects.{First, for_boolean, for_class, for_integer, for_main, for_stream, for_text, integers_from}
use Rattle.vx_java.specs.Machine.{Int as IntValue, Object, Text as TextValue, Value}
use Rattle.vx_value.specs.declared.ids.ClassId.{ClassId}
use Rattle.vx_value.specs.declared.slot.Slot.TheVariants.{Int}

-- an object of a class whose one cell is an int
abbrev pub int_object : ClassId → ℤ → FirstObject
int_object class n = record { class = class; cell = Some (Int n) }

-- those of the ints from one on
abbrev pub int_objects : ClassId → ℤ → ℕ → List FirstObject
int_objects class n zero = []
int_objects class n (suc k) = int_object class n ∷ int_objects class (n -ℤ negsuc 0) k

abbrev pub with_cells : ClassId → List Value → Object
with_cells class cells = record { class = class.0; size = 0; cells = cells }

-- the first object for something, where these are the core classes
abbrev pub object_for : CoreClasses → First → Object
object_for classes (for_stream n) = with_cells classes.print_stream (IntValue (pos n) ∷ [])
object_for classes (for_integer n) = with_cells classes.integer (IntValue n ∷ [])
object_for classes (for_boolean n) = with_cells classes.boolean (IntValue (pos n) ∷ [])
object_for classes (for_text units) = with_cells classes.string (TextValue units ∷ [])
object_for classes (for_class name) = with_cells classes.class []
object_for classes for_main = with_cells classes.strings []

pub record IsObjectFor (classes : CoreClasses) (texts : List (List ℕ)) (x : First) (o : FirstObject) : Type 0 where
  pub same : object_in texts o ≡ object_for classes x
  pub held : is_cell_among (length texts) o.cell ≡ true

abbrev pub AreObjectsFor : CoreClasses → List (List ℕ) → List First → List FirstObject → Type 0
AreObjectsFor classes texts xs os = AllZip (IsObjectFor classes texts) xs os

-- the first objects before the literals: two streams, the Integers from -128 to 127 and two Booleans
unfoldable pub before_literals : List First
before_literals = for_stream 0 ∷ for_stream 1 ∷ (integers_from (negsuc 127) 256 ++ (for_boolean 0 ∷ for_boolean 1 ∷ []))

-- objects of literals
abbrev pub IsLiteralObject : CoreClasses → List (List ℕ) → Literal → FirstObject → Type 0
IsLiteralObject classes texts literal o = IsObjectFor classes texts (first_of literal) o

-- the Integers from -128 to 127
unfoldable pub small_integers : ClassId → List FirstObject
small_integers class = int_objects class (negsuc 127) 256
