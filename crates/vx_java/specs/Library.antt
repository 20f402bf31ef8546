-- The native methods of System, Number, Integer, Boolean, Math, Enum and Throwable (the class library of Java SE 7; what it leaves open is own).
use Rattle.std.specs.Fmt.{signed_decimal}
use Rattle.std.specs.Int.{Width, int_wrapping_sub, w32, w64}
use Rattle.std.specs.Prelude.{Bool, List, None, Option, Some, [], drop, false, if◌then◌else◌, int_le, length, map, nat_le, neg_ℤ, negsuc, not, option_map, pos, take, take_while, true, ℕ, ℤ, ◌&&◌, ◌*◌, ◌++◌, ◌+◌, ◌-◌, ◌==◌, ◌||◌, ◌∷◌}
use Rattle.vx_java.specs.FirstObjects.{core_object, first_boolean, first_integer, units_of}
use Rattle.vx_java.specs.Machine.{Ended, Here, Int, Long, Null, Object, Outcome, Ref, Value, cell_at, fit, go, illegal, in_state, object_at, push_new, raise, when, with_cell, with_cells}
use Rattle.vx_java.specs.Texts.{NativeMethod, answer, answer_bool, answer_int, answer_text, bool_text, null_pointer, text_of_object}
use Rattle.vx_link.specs.Assignability.{assignable}
use Rattle.vx_link.specs.ClassNames.{class_text, component_of, has_reference_components, is_array}
use Rattle.vx_link.specs.declared.program.Program.{Program}
use Rattle.vx_value.specs.Arithmetic.{compare_long_of, natural, negation, negative, same_int}
use Rattle.vx_value.specs.declared.end.End.TheVariants.{Exit}

-- ---- System

-- the cells with others from a place on
abbrev pub cells_with : List Value → ℕ → List Value → List Value
cells_with cells at values = take at cells ++ (values ++ drop (at + length values) cells)

-- an element fits in an array of references to a class
abbrev pub fits_component : Here → ℕ → Value → Bool
fits_component h c (Ref v) = assignable h.program (object_at h.state v).class c
fits_component h c _ = true

abbrev pub fitting_values : Here → (from to : Object) → List Value → List Value
fitting_values h from to values =
    if has_reference_components h.program to.class then take_while (fits_component h (component_of h.program to.class)) values else values

-- the elements up to the first that does not fit are copied, as through a copy
abbrev pub copy_outcome : Here → List Value → (to at : ℕ) → (values fit : List Value) → Outcome
copy_outcome h rest to at values fit =
    let g = in_state h (with_cells h.state to (cells_with (object_at h.state to).cells at fit)) in
    when (length fit == length values) (go g rest) (raise g "java/lang/ArrayStoreException")

abbrev pub within_array : (at count : ℤ) → ℕ → Bool
within_array (pos at) (pos count) size = nat_le (at + count) size
within_array _ _ size = false

-- the classes of two arrays of references, or of two of one primitive type
abbrev pub are_like : Program → (from to : ℕ) → Bool
are_like p from to =
    is_array p from && (is_array p to && ((from == to) || (has_reference_components p from && has_reference_components p to)))

abbrev pub like_kinds : Here → (from to : Object) → Bool
like_kinds h from to = are_like h.program from.class to.class

abbrev pub copy_within : Here → List Value → (from : ℕ) → (i : ℤ) → (to : ℕ) → (j count : ℤ) → Outcome
copy_within h rest from i to j count =
    let values = take (natural count) (drop (natural i) (object_at h.state from).cells) in
    copy_outcome h rest to (natural j) values (fitting_values h (object_at h.state from) (object_at h.state to) values)

abbrev pub array_copy : NativeMethod
array_copy h (Ref from ∷ Int i ∷ Ref to ∷ Int j ∷ Int count ∷ []) rest =
    when (not (like_kinds h (object_at h.state from) (object_at h.state to))) (raise h "java/lang/ArrayStoreException")
    (when (within_array i count (object_at h.state from).size && within_array j count (object_at h.state to).size)
    (copy_within h rest from i to j count)
    (raise h "java/lang/ArrayIndexOutOfBoundsException"))
array_copy h (a ∷ Int i ∷ b ∷ Int j ∷ Int count ∷ []) rest = null_pointer h
array_copy h _ rest = illegal h

abbrev pub exit : NativeMethod
exit h (Int k ∷ []) rest = Ended (Exit k)
exit h _ rest = illegal h

abbrev pub line_separator : NativeMethod
line_separator h values rest = answer_text h rest (10 ∷ [])

-- ---- Integer

-- the value of an Integer or a Boolean object
abbrev pub number_in : Value → ℤ
number_in (Int n) = n
number_in _ = pos 0

abbrev pub number_of_object : Here → ℕ → ℤ
number_of_object h r = number_in (cell_at h.state r 0)

-- the first objects for -128 to 127, else a new one
abbrev pub integer_value_of : NativeMethod
integer_value_of h (Int n ∷ []) rest =
    when (int_le (negsuc 127) n && int_le n (pos 127))
    (answer h rest (Ref (first_integer n)))
    (push_new h (core_object h.program "java/lang/Integer" (Int n ∷ [])) rest)
integer_value_of h _ rest = illegal h

-- ASCII digits alone; none for another unit
abbrev pub digits_value : ℕ → List ℕ → Option ℕ
digits_value n [] = Some n
digits_value n (u ∷ units) = elim (nat_le 48 u && nat_le u 57) [ true ↦ digits_value (10 * n + (u - 48)) units | false ↦ None ]

abbrev pub some_digits : List ℕ → Option ℕ
some_digits [] = None
some_digits (u ∷ units) = digits_value 0 (u ∷ units)

abbrev pub signed_value : List ℕ → Option ℤ
signed_value [] = None
signed_value (u ∷ units) =
    if u == 45 then option_map (λ n. neg_ℤ (pos n)) (some_digits units)
    else if u == 43 then option_map (λ n. pos n) (some_digits units)
    else option_map (λ n. pos n) (some_digits (u ∷ units))

abbrev pub not_a_number : Here → Outcome
not_a_number h = raise h "java/lang/NumberFormatException"

abbrev pub if_in_range : Here → List Value → Option ℤ → Outcome
if_in_range h rest None = not_a_number h
if_in_range h rest (Some n) =
    when (int_le (negsuc 2147483647) n && int_le n (pos 2147483647)) (answer_int h rest n) (not_a_number h)

abbrev pub integer_parse : NativeMethod
integer_parse h (Ref r ∷ []) rest = if_in_range h rest (signed_value (text_of_object h r))
integer_parse h _ rest = not_a_number h

abbrev pub integer_to_string_of : NativeMethod
integer_to_string_of h (Int n ∷ []) rest = answer_text h rest (signed_decimal n)
integer_to_string_of h _ rest = illegal h

abbrev pub integer_compare : NativeMethod
integer_compare h (Int a ∷ Int b ∷ []) rest = answer_int h rest (compare_long_of a b)
integer_compare h _ rest = illegal h

abbrev pub integer_int_value : NativeMethod
integer_int_value h (Ref r ∷ []) rest = answer_int h rest (number_of_object h r)
integer_int_value h _ rest = illegal h

abbrev pub integer_long_value : NativeMethod
integer_long_value h (Ref r ∷ []) rest = answer h rest (Long (number_of_object h r))
integer_long_value h _ rest = illegal h

abbrev pub integer_to_string : NativeMethod
integer_to_string h (Ref r ∷ []) rest = answer_text h rest (signed_decimal (number_of_object h r))
integer_to_string h _ rest = illegal h

-- an object of the same class with the same value; null is not
abbrev pub same_number : NativeMethod
same_number h (Ref r ∷ Ref s ∷ []) rest =
    answer_bool h rest
    (((object_at h.state s).class == (object_at h.state r).class) && same_int (number_of_object h r) (number_of_object h s))
same_number h (Ref r ∷ Null ∷ []) rest = answer_bool h rest false
same_number h _ rest = illegal h

-- compareTo of Integer, and of Boolean, as FALSE is 0 and TRUE 1
abbrev pub compare_numbers : NativeMethod
compare_numbers h (Ref r ∷ Ref s ∷ []) rest = answer_int h rest (compare_long_of (number_of_object h r) (number_of_object h s))
compare_numbers h (Ref r ∷ Null ∷ []) rest = null_pointer h
compare_numbers h _ rest = illegal h

-- ---- Boolean

abbrev pub boolean_value_of : NativeMethod
boolean_value_of h (Int n ∷ []) rest = answer h rest (Ref (first_boolean (natural n)))
boolean_value_of h _ rest = illegal h

abbrev pub boolean_to_string : NativeMethod
boolean_to_string h (Ref r ∷ []) rest = answer_text h rest (bool_text (number_of_object h r))
boolean_to_string h _ rest = illegal h

-- ---- Math

-- the distance from 0; that of the least number is itself
abbrev pub absolute : Width → ℤ → ℤ
absolute w a = if negative a then negation w a else a

abbrev pub absolute_int : NativeMethod
absolute_int h (Int a ∷ []) rest = answer_int h rest (absolute w32 a)
absolute_int h _ rest = illegal h

abbrev pub absolute_long : NativeMethod
absolute_long h (Long a ∷ []) rest = answer h rest (Long (absolute w64 a))
absolute_long h _ rest = illegal h

abbrev pub of_ints : (ℤ → ℤ → ℤ) → NativeMethod
of_ints f h (Int a ∷ Int b ∷ []) rest = answer_int h rest (f a b)
of_ints f h _ rest = illegal h

abbrev pub of_longs : (ℤ → ℤ → ℤ) → NativeMethod
of_longs f h (Long a ∷ Long b ∷ []) rest = answer h rest (Long (f a b))
of_longs f h _ rest = illegal h

-- ---- Enum, whose cells are the name and the ordinal

abbrev pub enum_init : NativeMethod
enum_init h (Ref r ∷ Ref name ∷ Int ordinal ∷ []) rest =
    go (in_state h (with_cell (with_cell h.state r 0 (Ref name)) r 1 (Int ordinal))) rest
enum_init h (Ref r ∷ Null ∷ Int ordinal ∷ []) rest = null_pointer h
enum_init h _ rest = illegal h

abbrev pub first_cell : NativeMethod
first_cell h (Ref r ∷ []) rest = answer h rest (cell_at h.state r 0)
first_cell h _ rest = illegal h

abbrev pub second_cell : NativeMethod
second_cell h (Ref r ∷ []) rest = answer h rest (cell_at h.state r 1)
second_cell h _ rest = illegal h

-- the difference of the ordinals
abbrev pub enum_compare : NativeMethod
enum_compare h (Ref r ∷ Ref s ∷ []) rest =
    answer_int h rest (int_wrapping_sub w32 (number_in (cell_at h.state r 1)) (number_in (cell_at h.state s 1)))
enum_compare h (Ref r ∷ Null ∷ []) rest = null_pointer h
enum_compare h _ rest = illegal h

-- ---- Throwable, whose cells are the message and the cause, which may be null

abbrev pub with_message_and_cause : Here → ℕ → Value → Value → Here
with_message_and_cause h r message cause = in_state h (with_cell (with_cell h.state r 0 message) r 1 cause)

abbrev pub throwable_init : NativeMethod
throwable_init h (Ref r ∷ []) rest = go (with_message_and_cause h r Null Null) rest
throwable_init h (Ref r ∷ message ∷ []) rest = go (with_message_and_cause h r message Null) rest
throwable_init h (Ref r ∷ message ∷ cause ∷ []) rest = go (with_message_and_cause h r message cause) rest
throwable_init h _ rest = illegal h

-- the class's name with a dot for each slash
abbrev pub dotted : List ℕ → List ℕ
dotted units = map (λ u. if u == 47 then 46 else u) units

abbrev pub throwable_class_name : NativeMethod
throwable_class_name h (Ref r ∷ []) rest = answer_text h rest (dotted (units_of (class_text h.program (object_at h.state r).class)))
throwable_class_name h _ rest = illegal h

abbrev pub add_suppressed : NativeMethod
add_suppressed h (Ref r ∷ Ref s ∷ []) rest = go h rest
add_suppressed h (Ref r ∷ Null ∷ []) rest = null_pointer h
add_suppressed h _ rest = illegal h
