-- The types of local variables and operands, and which type a name or a descriptor says (JVMS 4.10.1.2).
use Rattle.std.specs.Prelude.{List, None, Option, Some, codes, false, if◌then◌else◌, option_map, true, ℕ, ◌+◌, ◌-◌}
use Prim.Native.String.{String}
use Rattle.vx_pool.specs.Lookups.{is_array as is_array_text}
use Rattle.vx_desc.specs.Descriptors.{field_type}
use Rattle.vx_desc.specs.declared.java_type.Base.{Base}
use Rattle.vx_desc.specs.declared.java_type.Base.TheVariants as base
use Rattle.vx_desc.specs.declared.java_type.JavaType.{JavaType}
use Rattle.vx_java.specs.Checks.{sort_of}
use Rattle.vx_java.specs.Ids.{as_class}
use Rattle.vx_java.specs.declared.operation.Sort.{Sort}
use Rattle.vx_java.specs.declared.operation.Sort.TheVariants as sort
use Rattle.vx_link.specs.ClassNames.{class_of_name, object_class}
use Rattle.vx_link.specs.Parts.{is_interface}
use Rattle.vx_link.specs.Signature.{class_in}
use Rattle.vx_link.specs.declared.program.Program.{Program}
use Rattle.vx_types.specs.declared.types.ElementType.{ElementType}
use Rattle.vx_types.specs.declared.types.ElementType.TheVariants as element
use Rattle.vx_types.specs.declared.types.VerType.{VerType}
use Rattle.vx_types.specs.declared.types.VerType.TheVariants.{Int, Long, Ref}

-- the types of a method's local variables, and of its operands with the top first
pub record VerState : Type 0 where
  pub locals : List VerType
  pub operands : List VerType

-- ---- classes

-- an interface counts as Object
abbrev pub element_of_class : Program → ℕ → ElementType
element_of_class p c = element.Class (as_class (if is_interface p c then object_class p else c))

-- a class that the program hasn't keeps its name
abbrev pub element_found : Program → List ℕ → Option ℕ → ElementType
element_found p name None = element.Missing name
element_found p name (Some c) = element_of_class p c

abbrev pub element_named : Program → List ℕ → ElementType
element_named p name = element_found p name (class_of_name p name)

-- ---- types

abbrev pub class_type : Program → ℕ → VerType
class_type p c = Ref 0 (element_of_class p c)

abbrev pub object_type : Program → VerType
object_type p = Ref 0 (element.Class (as_class (object_class p)))

-- the type of a class or of an array in a descriptor, with so many more dimensions
abbrev pub ref_of_base : Program → (more : ℕ) → List ℕ → JavaType → Base → VerType
ref_of_base p more descriptor t base.Class = Ref (t.dimensions + more) (element_named p (class_in descriptor t))
ref_of_base p more descriptor t b = Ref (t.dimensions - 1 + more) (element.Primitives b)

abbrev pub ref_of_array : Program → (more : ℕ) → List ℕ → Option JavaType → VerType
ref_of_array p more name None = Ref more (element.Missing name)
ref_of_array p more name (Some t) = ref_of_base p more name t t.base

-- the type of an array of so many dimensions over a class name or the descriptor of an array
abbrev pub arrays_over : Program → (more : ℕ) → List ℕ → VerType
arrays_over p more name =
    elim (is_array_text name) [
      | true ↦ ref_of_array p more name (field_type name)
      | false ↦ Ref more (element_named p name)
    ]

-- the type of a class name or of the descriptor of an array
abbrev pub ref_of : Program → List ℕ → VerType
ref_of p name = arrays_over p 0 name

abbrev pub core_type : Program → String → VerType
core_type p name = ref_of p (codes name)

-- the type of a value of a sort that a type of a descriptor has
abbrev pub type_of_sort : Program → List ℕ → JavaType → Sort → VerType
type_of_sort p descriptor t sort.Int = Int
type_of_sort p descriptor t sort.Long = Long
type_of_sort p descriptor t sort.Reference = ref_of_base p 0 descriptor t t.base

-- the type of a type in a descriptor; a float or a double has none
abbrev pub type_of : Program → List ℕ → JavaType → Option VerType
type_of p descriptor t = option_map (type_of_sort p descriptor t) (sort_of t)
