-- What the rows of several instructions ask, each question in the order in which it is asked: a check takes what follows it as a function.
use Rattle.std.specs.Prelude.{Bool, List, None, Option, Some, false, nat_lt, negsuc, not, pos, true, ℕ, ℤ, ◌==◌}
use Rattle.vx_desc.specs.declared.java_type.Base.{Base}
use Rattle.vx_desc.specs.declared.java_type.JavaType.{JavaType}
use Rattle.vx_java.specs.Machine.{Here, Int, Long, Null, Outcome, Ref, Value, object_at, raise, unsupported}
use Rattle.vx_java.specs.Operation.{class_word}
use Rattle.vx_java.specs.declared.operation.Sort.{Sort}
use Rattle.vx_link.specs.Assignability.{assignable}
use Rattle.vx_link.specs.ClassNames.{class_named}
use Rattle.vx_desc.specs.declared.java_type.Base.TheVariants.{Double, Float, Long as LongBase, Class}
use Rattle.vx_java.specs.declared.operation.Sort.TheVariants.{Int as IntSort, Long as LongSort, Reference}

-- ---- sorts of values

abbrev pub is_of : Sort → Value → Bool
is_of IntSort (Int n) = true
is_of LongSort (Long n) = true
is_of Reference Null = true
is_of Reference (Ref r) = true
is_of _ _ = false

-- the sort of a value of a type; a float or a double has none
abbrev pub sort_of_base : Base → Option Sort
sort_of_base Double = None
sort_of_base Float = None
sort_of_base LongBase = Some LongSort
sort_of_base Class = Some Reference
sort_of_base _ = Some IntSort

abbrev pub sort_of : JavaType → Option Sort
sort_of t = elim (t.dimensions == 0) [ true ↦ sort_of_base t.base | false ↦ Some Reference ]

abbrev pub is_of_sort : Option Sort → Value → Bool
is_of_sort None v = false
is_of_sort (Some sort) v = is_of sort v

-- a value is of a type's sort
abbrev pub fits_type : JavaType → Value → Bool
fits_type t v = is_of_sort (sort_of t) v

-- the width of a value of a sort, and of a type
abbrev pub width_of_sort : Sort → ℕ
width_of_sort LongSort = 2
width_of_sort _ = 1

abbrev pub width_of_optional : Option Sort → ℕ
width_of_optional None = 0
width_of_optional (Some sort) = width_of_sort sort

abbrev pub width_of_type : JavaType → ℕ
width_of_type t = width_of_optional (sort_of t)

-- ---- classes

-- a class that an instruction names, which has to be there
abbrev pub if_there : Here → (name : List ℕ) → Option ℕ → (ℕ → Outcome) → Outcome
if_there h name None rest = unsupported h class_word name
if_there h name (Some c) rest = rest c

abbrev pub with_class : Here → (name : List ℕ) → (ℕ → Outcome) → Outcome
with_class h name rest = if_there h name (class_named h.program name) rest

-- ---- objects

-- a reference is null or an object whose class passes a test
abbrev pub is_object : Here → (ℕ → Bool) → Value → Bool
is_object h test Null = true
is_object h test (Ref r) = test (object_at h.state r).class
is_object h test _ = false

-- an object of a class, or null
abbrev pub is_instance_of : Here → ℕ → Value → Bool
is_instance_of h c v = is_object h (λ d. assignable h.program d c) v

-- an object that is not null
abbrev pub non_null : Here → Value → (ℕ → Outcome) → Outcome
non_null h (Ref r) rest = rest r
non_null h _ rest = raise h "java/lang/NullPointerException"

-- an index within a length
abbrev pub is_within : ℤ → ℕ → Bool
is_within (pos n) size = nat_lt n size
is_within (negsuc n) size = false

-- two references are one
abbrev pub same_reference : Value → Value → Bool
same_reference Null Null = true
same_reference (Ref a) (Ref b) = a == b
same_reference _ _ = false

abbrev pub same_bool : Bool → Bool → Bool
same_bool true b = b
same_bool false b = not b
