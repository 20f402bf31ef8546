-- Arrays (JVMS 6.5 newarray, anewarray, multianewarray, iaload, iastore and their kin, arraylength).
use Rattle.std.specs.Fmt.{signed_decimal}
use Rattle.std.specs.List.{list_any}
use Rattle.std.specs.Prelude.{Bool, List, None, Option, Some, [], codes, if◌then◌else◌, map, nat_lt, pos, replicate, suc, true, zero, ℕ, ℤ, ◌&&◌, ◌*◌, ◌++◌, ◌+◌, ◌-◌, ◌==◌, ◌||◌, ◌∷◌}
use Rattle.vx_pool.specs.Checks.{each}
use Rattle.vx_desc.specs.declared.java_type.Base.{Base}
use Rattle.vx_java.specs.Checks.{is_object, is_of, is_within, non_null, width_of_sort, with_class}
use Rattle.vx_java.specs.FirstObjects.{default_of_base}
use Rattle.vx_java.specs.Machine.{Go, Here, Int, Null, Object, Outcome, Ref, Value, cell_at, go, has_room, illegal, length_bound, next_object, object_at, past, push_new, raise, raise_with, unsupported, when, with_cell, with_objects}
use Rattle.vx_java.specs.Operation.{float_word}
use Rattle.vx_java.specs.declared.operation.Element.{Element}
use Rattle.vx_java.specs.declared.operation.Element.TheVariants.{Bytes, Chars, Ints, Longs, References, Shorts}
use Rattle.vx_java.specs.declared.operation.Sort.{Sort}
use Rattle.vx_link.specs.Assignability.{assignable}
use Rattle.vx_link.specs.ClassNames.{array_class, array_over, boolean_element, byte_element, char_element, component_of, double_element, element_of, float_element, has_reference_components, int_element, is_array, long_element, short_element}
use Rattle.vx_link.specs.Names.{class_name}
use Rattle.vx_link.specs.declared.program.Program.{Program}
use Rattle.vx_list.specs.Places.{item_or}
use Rattle.vx_value.specs.Arithmetic.{narrow_of, natural, negative}
use Rattle.vx_value.specs.declared.operation.Narrow.TheVariants.{Byte, Char, Short}
use Rattle.vx_java.specs.declared.operation.Sort.TheVariants.{Int as IntSort, Long as LongSort, Reference}
use Rattle.vx_desc.specs.declared.java_type.Base.TheVariants.{Bool as BoolBase, Byte as ByteBase, Char as CharBase, Double, Float, Int as IntBase, Long as LongBase, Short as ShortBase}

-- ---- new arrays

-- the types of the elements 0 to 7
abbrev pub element_bases : List Base
element_bases = BoolBase ∷ ByteBase ∷ CharBase ∷ Double ∷ Float ∷ IntBase ∷ LongBase ∷ ShortBase ∷ []

-- the value with which the elements of an array class begin
abbrev pub element_default : Program → ℕ → Value
element_default p class =
    if has_reference_components p class then Null else default_of_base (item_or element_bases (element_of p class) IntBase)

abbrev pub array_of : Program → ℕ → ℕ → Object
array_of p class n = record { class = class; size = n; cells = replicate n (element_default p class) }

-- one array: a negative length throws, then too large a one
abbrev pub new_array : Here → ℕ → List Value → Outcome
new_array h class (Int n ∷ rest) =
    when (negative n) (raise h "java/lang/NegativeArraySizeException")
    (when (nat_lt length_bound (natural n)) (raise h "java/lang/OutOfMemoryError")
    (push_new h (array_of h.program class (natural n)) rest))
new_array h class _ = illegal h

-- the elements of the type numbers 4 to 11: boolean, char, float, double, byte, short, int, long
abbrev pub elements_of_numbers : List ℕ
elements_of_numbers =
    boolean_element ∷ char_element ∷ float_element ∷ double_element ∷ byte_element ∷ short_element ∷ int_element ∷ long_element ∷ []

-- the element of a type number
abbrev pub element_of_number : ℕ → ℕ
element_of_number number = item_or elements_of_numbers (number - 4) int_element

-- newarray: a float or a double ends the run
abbrev pub new_primitives : Here → ℕ → Outcome
new_primitives h number =
    let element = element_of_number number in
    when ((element == float_element) || (element == double_element)) (unsupported h float_word (codes "-"))
    (new_array h (array_class h.program 1 element) h.state.top.operands)

-- anewarray
abbrev pub new_references : Here → ℕ → Outcome
new_references h i =
    with_class h (class_name h.pool i) (λ c. new_array h (array_over h.program c) h.state.top.operands)

-- the lengths, the first dimension's deepest on the stack; none where one is no int
abbrev pub lengths_off : ℕ → (deeper : List ℤ) → List Value → Option (List ℤ × List Value)
lengths_off zero lengths rest = Some (lengths, rest)
lengths_off (suc d) lengths (Int n ∷ rest) = lengths_off d (n ∷ lengths) rest
lengths_off (suc d) lengths _ = None

-- how many objects, and how many cells, an array of these lengths has with its parts; a length of 0 has no parts
abbrev pub grid_objects : List ℕ → ℕ
grid_objects [] = 0
grid_objects (n ∷ ns) = 1 + n * grid_objects ns

abbrev pub grid_cells : List ℕ → ℕ
grid_cells [] = 0
grid_cells (n ∷ ns) = n + n * grid_cells ns

-- references to so many parts, each with so many objects, from one on
abbrev pub references_to : (count each from : ℕ) → List Value
references_to zero each from = []
references_to (suc n) each from = Ref from ∷ references_to n each (from + each)

-- the parts one after the other, each by a function of where it begins
abbrev pub parts_of : (ℕ → List Object) → (count each from : ℕ) → List Object
parts_of part zero each from = []
parts_of part (suc n) each from = part from ++ parts_of part n each (from + each)

-- an array before its parts, the parts by rising index, each with its own parts before the next
abbrev pub grid : Program → ℕ → List ℕ → ℕ → List Object
grid p class [] from = []
grid p class (n ∷ []) from = array_of p class n ∷ []
grid p class (n ∷ m ∷ ns) from =
    record { class = class; size = n; cells = references_to n (grid_objects (m ∷ ns)) (from + 1) }
    ∷ parts_of (grid p (component_of p class) (m ∷ ns)) n (grid_objects (m ∷ ns)) (from + 1)

abbrev pub push_grid : Here → ℕ → List ℕ → List Value → Outcome
push_grid h class lengths rest =
    Go (past h (with_objects h.state (grid h.program class lengths (next_object h.state))) (Ref (next_object h.state) ∷ rest))

-- multianewarray: a negative length anywhere, then any length above the bound, or more cells than the bound in all. It has one length
-- at least in each class that is read (JVMS 4.9.1); without any it would end the run
abbrev pub new_grid_of : Here → ℕ → Option (List ℤ × List Value) → Outcome
new_grid_of h class None = illegal h
new_grid_of h class (Some ([], rest)) = illegal h
new_grid_of h class (Some (lengths, rest)) =
    let ns = map natural lengths in
    when (list_any negative lengths) (raise h "java/lang/NegativeArraySizeException")
    (when (list_any (nat_lt length_bound) ns || nat_lt length_bound (grid_cells ns)) (raise h "java/lang/OutOfMemoryError")
    (push_grid h class ns rest))

abbrev pub new_grid : Here → ℕ → ℕ → Outcome
new_grid h i d = with_class h (class_name h.pool i) (λ c. new_grid_of h c (lengths_off d [] h.state.top.operands))

-- ---- elements of arrays

-- the array classes that an instruction works on
abbrev pub is_array_of : Program → Element → ℕ → Bool
is_array_of p References c = has_reference_components p c
is_array_of p Ints c = c == array_class p 1 int_element
is_array_of p Longs c = c == array_class p 1 long_element
is_array_of p Bytes c = (c == array_class p 1 byte_element) || (c == array_class p 1 boolean_element)
is_array_of p Chars c = c == array_class p 1 char_element
is_array_of p Shorts c = c == array_class p 1 short_element

-- an index within an array, else the exception with the index as its message
abbrev pub at_index : Here → ℕ → ℤ → Outcome → Outcome
at_index h r i rest =
    when (is_within i (object_at h.state r).size) rest
    (raise_with h "java/lang/ArrayIndexOutOfBoundsException" (signed_decimal i))

-- the sort of an element
abbrev pub element_sort : Element → Sort
element_sort Longs = LongSort
element_sort References = Reference
element_sort _ = IntSort

-- iaload, laload, aaload, baload, caload, saload
abbrev pub load_element : Here → Element → List Value → Outcome
load_element h e (Int i ∷ a ∷ rest) =
    when (is_object h (is_array_of h.program e) a && has_room h (width_of_sort (element_sort e)) rest)
    (non_null h a (λ r. at_index h r i (go h (cell_at h.state r (natural i) ∷ rest))))
    (illegal h)
load_element h e _ = illegal h

-- what a store keeps of an int
abbrev pub value_kept : Element → Value → Value
value_kept Bytes (Int n) = Int (narrow_of Byte n)
value_kept Chars (Int n) = Int (narrow_of Char n)
value_kept Shorts (Int n) = Int (narrow_of Short n)
value_kept _ v = v

-- a reference may be stored in an array of references
abbrev pub may_hold : Here → ℕ → Value → Bool
may_hold h r (Ref v) = assignable h.program (object_at h.state v).class (component_of h.program (object_at h.state r).class)
may_hold h r _ = true

abbrev pub may_store : Here → Element → ℕ → Value → Bool
may_store h References r v = may_hold h r v
may_store h _ r v = true

-- iastore, lastore, aastore, bastore, castore, sastore
abbrev pub store_element : Here → Element → List Value → Outcome
store_element h e (v ∷ Int i ∷ a ∷ rest) =
    when (is_of (element_sort e) v && is_object h (is_array_of h.program e) a)
    (non_null h a (λ r. at_index h r i
    (when (may_store h e r v)
    (Go (past h (with_cell h.state r (natural i) (value_kept e v)) rest))
    (raise h "java/lang/ArrayStoreException"))))
    (illegal h)
store_element h e _ = illegal h

-- arraylength: of any array
abbrev pub array_length : Here → List Value → Outcome
array_length h (a ∷ rest) =
    when (is_object h (is_array h.program) a && has_room h 1 rest)
    (non_null h a (λ r. go h (Int (pos (object_at h.state r).size) ∷ rest)))
    (illegal h)
array_length h [] = illegal h
