-- The class that a name or a descriptor names, array classes, and the name of a class (JVMS 4.2.1, 4.3.2, 5.3.3).
use Rattle.std.specs.Prelude.{Bool, List, None, Option, Some, [], bytes_eq, codes, false, if◌then◌else◌, nat_le, nat_lt, not, option_and_then, option_map, position, replicate, true, unwrap_or, ℕ, ◌%◌, ◌&&◌, ◌*◌, ◌++◌, ◌+◌, ◌-◌, ◌/◌, ◌==◌, ◌||◌, ◌∷◌}
use Rattle.std.specs.Str.{byte}
use Prim.Native.String.{String}
use Rattle.vx_pool.specs.Instructions.{dimensions}
use Rattle.vx_desc.specs.Descriptors.{field_type}
use Rattle.vx_desc.specs.declared.java_type.Base.{Base}
use Rattle.vx_desc.specs.declared.java_type.Base.TheVariants.{Byte, Char, Class, Double, Float, Int, Long, Short}
use Rattle.vx_desc.specs.declared.java_type.JavaType.{JavaType}
use Rattle.vx_link.specs.Parts.{class_at, class_count}
use Rattle.vx_link.specs.Signature.{class_in}
use Rattle.vx_link.specs.declared.program.Program.{Program}
use Rattle.vx_list.specs.Places.{item_or}
use Rattle.vx_pool.specs.Lookups.{is_array as is_array_text}
use Rattle.vx_desc.specs.declared.java_type.Base.TheVariants.{Bool as BoolBase}

-- the number of a class by its name
abbrev pub class_of_name : Program → List ℕ → Option ℕ
class_of_name p name = position (λ c. bytes_eq c.name name) p.classes

-- a core class, which is there
abbrev pub core_class : Program → String → ℕ
core_class p name = unwrap_or (class_of_name p (codes name)) 0

abbrev pub object_class : Program → ℕ
object_class p = core_class p "java/lang/Object"

-- ---- array classes

-- the elements of arrays: 0 to 7 are the primitive types, and 8 + n is class n
abbrev pub boolean_element : ℕ
boolean_element = 0

abbrev pub byte_element : ℕ
byte_element = 1

abbrev pub char_element : ℕ
char_element = 2

abbrev pub double_element : ℕ
double_element = 3

abbrev pub float_element : ℕ
float_element = 4

abbrev pub int_element : ℕ
int_element = 5

abbrev pub long_element : ℕ
long_element = 6

abbrev pub short_element : ℕ
short_element = 7

abbrev pub class_element : ℕ → ℕ
class_element c = 8 + c

-- the array class of an element and a number of dimensions, from 1 to 255
abbrev pub array_class : Program → (dimensions element : ℕ) → ℕ
array_class p dimensions element = class_count p + (dimensions - 1) * (class_count p + 8) + element

abbrev pub is_array : Program → ℕ → Bool
is_array p c = not (nat_lt c (class_count p))

-- the dimensions and the element of a class, which for a class that is no array are 0 and the class
abbrev pub dimensions_of : Program → ℕ → ℕ
dimensions_of p c = if is_array p c then (c - class_count p) / (class_count p + 8) + 1 else 0

abbrev pub element_of : Program → ℕ → ℕ
element_of p c = if is_array p c then (c - class_count p) % (class_count p + 8) else class_element c

-- the array class whose components are of a class
abbrev pub array_over : Program → ℕ → ℕ
array_over p c = array_class p (dimensions_of p c + 1) (element_of p c)

-- the components of an array class are references
abbrev pub has_reference_components : Program → ℕ → Bool
has_reference_components p c = is_array p c && (nat_lt 1 (dimensions_of p c) || nat_le (class_element 0) (element_of p c))

-- the class of the components of an array of references
abbrev pub component_of : Program → ℕ → ℕ
component_of p c = if nat_lt 1 (dimensions_of p c) then c - (class_count p + 8) else element_of p c - 8

-- ---- the class that is named

abbrev pub primitive_element : Base → ℕ
primitive_element BoolBase = boolean_element
primitive_element Byte = byte_element
primitive_element Char = char_element
primitive_element Double = double_element
primitive_element Float = float_element
primitive_element Int = int_element
primitive_element Long = long_element
primitive_element Short = short_element
primitive_element Class = class_element 0

-- the class of a type in a descriptor, behind its [; a primitive type has none
abbrev pub class_of_base : Program → List ℕ → JavaType → Base → Option ℕ
class_of_base p descriptor t Class = class_of_name p (class_in descriptor t)
class_of_base p descriptor t base = None

abbrev pub element_of_base : Program → List ℕ → JavaType → Base → Option ℕ
element_of_base p descriptor t Class = option_map class_element (class_of_name p (class_in descriptor t))
element_of_base p descriptor t base = Some (primitive_element base)

-- the class of a type in a descriptor; an array class is there where its element is
abbrev pub class_of_type : Program → List ℕ → JavaType → Option ℕ
class_of_type p descriptor t =
    elim (t.dimensions == 0) [
      | true ↦ class_of_base p descriptor t t.base
      | false ↦ option_map (array_class p t.dimensions) (element_of_base p descriptor t t.base)
    ]

-- the class of a class name or of an array descriptor, where it is there
abbrev pub class_named : Program → List ℕ → Option ℕ
class_named p name =
    elim (is_array_text name) [
      | true ↦ option_and_then (class_of_type p name) (field_type name)
      | false ↦ class_of_name p name
    ]

-- ---- the name of a class, of an array class its descriptor

abbrev pub primitive_letters : List ℕ
primitive_letters = codes "ZBCDFIJS"

abbrev pub spelled_element : Program → ℕ → List ℕ
spelled_element p e =
    if nat_lt e (class_element 0)
    then item_or primitive_letters e 0 ∷ []
    else codes "L" ++ ((class_at p (e - 8)).name ++ codes ";")

abbrev pub class_text : Program → ℕ → List ℕ
class_text p c =
    if is_array p c
    then replicate (dimensions_of p c) (byte "[") ++ spelled_element p (element_of p c)
    else (class_at p c).name
