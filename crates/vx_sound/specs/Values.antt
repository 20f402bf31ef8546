-- The type that a value has, and the types of a frame's values (JVMS 4.10.1.2).
use Rattle.std.specs.Prelude.{List, if◌then◌else◌, length, map, nat_lt, option_and_then, unwrap_or, ℕ, ◌-◌}
use Rattle.vx_desc.specs.Descriptors.{field_type}
use Rattle.vx_desc.specs.declared.java_type.Base.TheVariants as base
use Rattle.vx_java.specs.Arrays.{element_bases}
use Rattle.vx_java.specs.Checks.{sort_of_base}
use Rattle.vx_java.specs.Machine.{Frame, Int, Long, Null, Object, Ref, Text, Top, Value, no_object}
use Rattle.vx_java.specs.declared.operation.Sort.{Sort}
use Rattle.vx_java.specs.declared.operation.Sort.TheVariants as sort
use Rattle.vx_link.specs.ClassNames.{class_element, component_of, dimensions_of, element_of, has_reference_components, is_array}
use Rattle.vx_link.specs.Parts.{field_at}
use Rattle.vx_link.specs.declared.program.Program.{Program}
use Rattle.vx_list.specs.Places.{item_or}
use Rattle.vx_types.specs.Types.{VerState, class_type, element_of_class, type_of}
use Rattle.vx_types.specs.declared.types.ElementType.TheVariants as element
use Rattle.vx_types.specs.declared.types.VerType.{VerType}
use Rattle.vx_types.specs.declared.types.VerType.TheVariants as is
use Rattle.std.specs.Prelude.{Option, Some}

-- ---- classes and arrays

-- an array of primitives counts as an element with one dimension less
abbrev pub array_type : Program → (dimensions element : ℕ) → VerType
array_type p d e =
    if nat_lt e (class_element 0)
    then is.Ref (d - 1) (element.Primitives (item_or element_bases e base.Int))
    else is.Ref d (element_of_class p (e - class_element 0))

-- the type of an object of a class
abbrev pub type_of_class : Program → ℕ → VerType
type_of_class p c = if is_array p c then array_type p (dimensions_of p c) (element_of p c) else class_type p c

-- a float or a double is not looked at
abbrev pub type_of_number : Option Sort → VerType
type_of_number (Some sort.Int) = is.Int
type_of_number (Some sort.Long) = is.Long
type_of_number _ = is.Top

-- the type of the cells of an array
abbrev pub cell_type : Program → ℕ → VerType
cell_type p c =
    if has_reference_components p c
    then type_of_class p (component_of p c)
    else type_of_number (sort_of_base (item_or element_bases (element_of p c) base.Int))

-- the type of a field; a float, a double and a text are not looked at
abbrev pub type_of_field : Program → ℕ → VerType
type_of_field p f = let d = (field_at p f).descriptor in unwrap_or (option_and_then (type_of p d) (field_type d)) is.Top

-- ---- values

-- a reference that names no object can't be read
abbrev pub type_of_reference : Program → List Object → ℕ → VerType
type_of_reference p heap r = if nat_lt r (length heap) then type_of_class p (item_or heap r no_object).class else is.Top

-- the least type that a value has: it is of each type that this one fits
abbrev pub type_of_value : Program → List Object → Value → VerType
type_of_value p heap Top = is.Top
type_of_value p heap (Int n) = is.Int
type_of_value p heap (Long n) = is.Long
type_of_value p heap Null = is.Null
type_of_value p heap (Ref r) = type_of_reference p heap r
type_of_value p heap (Text units) = is.Top

-- the types of a frame's values
abbrev pub types_of_values : Program → List Object → List Value → List VerType
types_of_values p heap values = map (type_of_value p heap) values

abbrev pub types_of_frame : Program → List Object → Frame → VerState
types_of_frame p heap f = record { locals = types_of_values p heap f.locals; operands = types_of_values p heap f.operands }
