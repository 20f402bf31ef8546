-- What every run begins with, by slots and numbers of texts.
use Rattle.std.specs.List.{AllZip}
use Rattle.std.specs.Prelude.{Bool, List, None, Option, Some, [], length, map, nat_lt, suc, true, false, ℕ, ◌≡◌, ◌∷◌}
use Rattle.vx_initial_heap.specs.declared.first.First.{First}
use Rattle.vx_initial_heap.specs.declared.objects.FirstObject.{FirstObject}
use Rattle.vx_initial_heap.specs.declared.statics.FirstStatic.{FirstStatic}
use Rattle.vx_initial_heap.specs.declared.statics.FirstStatic.TheVariants.{OfOption, Same}
use Rattle.vx_java.specs.FirstObjects.{first_objects, first_words, literal_object, object_of_first}
use Rattle.vx_java.specs.FirstObjects as objects
use Rattle.vx_java.specs.Machine.{Object, Value}
use Rattle.vx_java.specs.Machine.{Top as TopValue, Int as IntValue, Long as LongValue, Null as NullValue, Ref as RefValue, Text as TextValue}
use Rattle.vx_java.specs.Objects.{int_of_bool}
use Rattle.vx_java.specs.Step.{Config, first_inits, first_static}
use Rattle.vx_link.specs.declared.program.LinkedField.{LinkedField}
use Rattle.vx_link.specs.declared.program.Program.{Program}
use Rattle.vx_list.specs.Places.{item_or}
use Rattle.vx_value.specs.Texts.{Extends, text_at}
use Rattle.vx_value.specs.declared.slot.Slot.{Slot}
use Rattle.vx_value.specs.declared.slot.Slot.TheVariants.{Top, Int, Long, Null, Ref, Text}

-- ---- slots

-- the plain value of a slot, where these are the texts
abbrev pub value_in : List (List ℕ) → Slot → Value
value_in texts Top = TopValue
value_in texts (Int n) = IntValue n
value_in texts (Long n) = LongValue n
value_in texts Null = NullValue
value_in texts (Ref i) = RefValue i
value_in texts (Text n) = TextValue (text_at texts n)

-- a slot names one of so many objects, or one of so many texts
abbrev pub is_among : (objects texts : ℕ) → Slot → Bool
is_among objects texts (Ref i) = nat_lt i objects
is_among objects texts (Text n) = nat_lt n texts
is_among objects texts _ = true

-- the texts with which the table begins: the empty one
abbrev pub empty_text : List (List ℕ)
empty_text = [] ∷ []

-- ---- objects

abbrev pub cells_in : List (List ℕ) → Option Slot → List Value
cells_in texts None = []
cells_in texts (Some slot) = value_in texts slot ∷ []

abbrev pub object_in : List (List ℕ) → FirstObject → Object
object_in texts o = record { class = o.class.0; size = 0; cells = cells_in texts o.cell }

abbrev pub is_cell_among : (texts : ℕ) → Option Slot → Bool
is_cell_among texts None = true
is_cell_among texts (Some slot) = is_among 0 texts slot

-- a first object, whose cell names no object
pub record IsFirstObject (p : Program) (texts : List (List ℕ)) (x : objects.First) (o : FirstObject) : Type 0 where
  pub same : object_in texts o ≡ object_of_first p x
  pub held : is_cell_among (length texts) o.cell ≡ true

abbrev pub AreFirstObjects : Program → List (List ℕ) → List objects.First → List FirstObject → Type 0
AreFirstObjects p texts xs os = AllZip (IsFirstObject p texts) xs os

-- ---- statics

abbrev pub static_in : List (List ℕ) → Config → FirstStatic → Value
static_in texts c (Same slot) = value_in texts slot
static_in texts c (OfOption option) = int_of_bool (item_or c option false)

abbrev pub is_static_among : (objects texts : ℕ) → FirstStatic → Bool
is_static_among objects texts (Same slot) = is_among objects texts slot
is_static_among objects texts (OfOption option) = true

-- the option is that of the field
abbrev pub IsOptionOf : LinkedField → FirstStatic → Type 0
IsOptionOf f (Same slot) = Unit {0}
IsOptionOf f (OfOption option) = f.option ≡ Some option

-- what a static field begins with
pub record IsFirstStatic (p : Program) (f : LinkedField) (static : FirstStatic) : Type 0 where
  pub value : (c : Config) → static_in empty_text c static ≡ first_static p c f
  pub held : is_static_among (suc (first_words p)) 1 static ≡ true
  pub option : IsOptionOf f static

-- ---- all of it

-- what every run of a program begins with
pub record IsFirst (p : Program) (first : First) : Type 0 where
  pub objects : AreFirstObjects p first.texts.texts (first_objects p) first.objects.items
  pub statics : AllZip (IsFirstStatic p) p.fields first.statics.items
  pub inits : first.inits.items ≡ first_inits p
  pub texts : Extends empty_text first.texts.texts
  pub literals : first.literals.items ≡ map (λ c. map (literal_object p c.pool) c.pool.entries) p.classes
  pub words : first.words ≡ first_words p
