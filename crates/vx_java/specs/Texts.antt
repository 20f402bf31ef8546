-- The native methods of Object, String, StringBuilder, Class and PrintStream (the class library of Java SE 7; what it leaves open is own).
use Rattle.std.specs.Char.Utf16.{is_high_surrogate, is_low_surrogate}
use Rattle.std.specs.Fmt.{signed_decimal}
use Rattle.std.specs.Int.{int_wrapping_add, int_wrapping_mul, w32}
use Rattle.std.specs.List.{ends_with, starts_with}
use Rattle.std.specs.Prelude.{Bool, List, None, Option, Some, [], bytes_eq, codes, drop, false, if◌then◌else◌, length, map, nat_eq, nat_le, nat_lt, negsuc, pos, replicate, suc, sum, take, true, zero, ℕ, ℤ, ◌%◌, ◌&&◌, ◌++◌, ◌+◌, ◌-ℤ◌, ◌-◌, ◌/◌, ◌==◌, ◌∷◌}
use Rattle.vx_java.specs.Checks.{is_within, same_reference}
use Rattle.vx_java.specs.FirstObjects.{string_object}
use Rattle.vx_java.specs.Initialisation.{begin}
use Rattle.vx_java.specs.Machine.{Here, Int, Long, Null, Object, Outcome, Ref, Text, Value, Write, cell_at, go, illegal, in_state, length_bound, object_at, past, push_new, raise, when, with_cell}
use Rattle.vx_java.specs.Objects.{int_of_bool}
use Rattle.vx_link.specs.ClassNames.{array_class, char_element, core_class}
use Rattle.vx_list.specs.Places.{item_or}
use Rattle.vx_value.specs.Arithmetic.{low_bits, natural}
use Rattle.vx_value.specs.declared.end.Stream.{Stream}
use Rattle.vx_value.specs.declared.end.Stream.TheVariants.{Err, Out}

-- a native method by its arguments, the receiver first, and by the operands under them
abbrev pub NativeMethod : Type 0
NativeMethod = Here → List Value → List Value → Outcome

-- ---- answers

abbrev pub answer : Here → List Value → Value → Outcome
answer h rest v = go h (v ∷ rest)

abbrev pub answer_int : Here → List Value → ℤ → Outcome
answer_int h rest n = go h (Int n ∷ rest)

abbrev pub answer_bool : Here → List Value → Bool → Outcome
answer_bool h rest b = go h (int_of_bool b ∷ rest)

-- a text that is not too long
abbrev pub if_short : Here → List ℕ → Outcome → Outcome
if_short h units next = when (nat_lt length_bound (length units)) (raise h "java/lang/OutOfMemoryError") next

-- a new String
abbrev pub answer_text : Here → List Value → List ℕ → Outcome
answer_text h rest units = if_short h units (push_new h (string_object h.program units) rest)

abbrev pub null_pointer : Here → Outcome
null_pointer h = raise h "java/lang/NullPointerException"

abbrev pub bad_index : Here → Outcome
bad_index h = raise h "java/lang/StringIndexOutOfBoundsException"

-- the text of a String or StringBuilder
abbrev pub units_in : Value → List ℕ
units_in (Text units) = units
units_in _ = []

abbrev pub text_of_object : Here → ℕ → List ℕ
text_of_object h r = units_in (cell_at h.state r 0)

abbrev pub with_text : Here → ℕ → List ℕ → Here
with_text h r units = in_state h (with_cell h.state r 0 (Text units))

-- the units in a char array: the lowest sixteen bits of each number, which are all of it in a run, since a store to such an array narrows to a char
abbrev pub unit_of : Value → ℕ
unit_of (Int n) = low_bits w32 16 n
unit_of _ = 0

abbrev pub chars_of : Here → ℕ → List ℕ
chars_of h r = map unit_of (object_at h.state r).cells

-- ---- texts of values

abbrev pub null_text : List ℕ
null_text = codes "null"

abbrev pub bool_text : ℤ → List ℕ
bool_text (pos zero) = codes "false"
bool_text _ = codes "true"

abbrev pub char_text : ℤ → List ℕ
char_text n = natural n ∷ []

-- ---- Object

abbrev pub object_init : NativeMethod
object_init h values rest = go h rest

abbrev pub same_object : NativeMethod
same_object h (a ∷ b ∷ []) rest = answer_bool h rest (same_reference a b)
same_object h _ rest = illegal h

-- ---- String

abbrev pub string_init : NativeMethod
string_init h (Ref r ∷ []) rest = go (with_text h r []) rest
string_init h _ rest = illegal h

abbrev pub string_init_string : NativeMethod
string_init_string h (Ref r ∷ Ref s ∷ []) rest = go (with_text h r (text_of_object h s)) rest
string_init_string h (Ref r ∷ Null ∷ []) rest = null_pointer h
string_init_string h _ rest = illegal h

abbrev pub string_init_chars : NativeMethod
string_init_chars h (Ref r ∷ Ref a ∷ []) rest = go (with_text h r (chars_of h a)) rest
string_init_chars h (Ref r ∷ Null ∷ []) rest = null_pointer h
string_init_chars h _ rest = illegal h

abbrev pub text_length : NativeMethod
text_length h (Ref r ∷ []) rest = answer_int h rest (pos (length (text_of_object h r)))
text_length h _ rest = illegal h

abbrev pub text_is_empty : NativeMethod
text_is_empty h (Ref r ∷ []) rest = answer_bool h rest (length (text_of_object h r) == 0)
text_is_empty h _ rest = illegal h

abbrev pub text_char_at : NativeMethod
text_char_at h (Ref r ∷ Int i ∷ []) rest =
    let units = text_of_object h r in
    when (is_within i (length units)) (answer_int h rest (pos (item_or units (natural i) 0))) (bad_index h)
text_char_at h _ rest = illegal h

-- the sum of s[i] * 31^(n-1-i), wrapping
abbrev pub hash_after : ℤ → List ℕ → ℤ
hash_after sum [] = sum
hash_after sum (u ∷ units) = hash_after (int_wrapping_add w32 (int_wrapping_mul w32 sum (pos 31)) (pos u)) units

abbrev pub hash_of : List ℕ → ℤ
hash_of units = hash_after (pos 0) units

abbrev pub string_hash : NativeMethod
string_hash h (Ref r ∷ []) rest = answer_int h rest (hash_of (text_of_object h r))
string_hash h _ rest = illegal h

abbrev pub string_equals : NativeMethod
string_equals h (Ref r ∷ Ref s ∷ []) rest =
    answer_bool h rest
    (((object_at h.state s).class == core_class h.program "java/lang/String") && bytes_eq (text_of_object h r) (text_of_object h s))
string_equals h (Ref r ∷ Null ∷ []) rest = answer_bool h rest false
string_equals h _ rest = illegal h

-- the difference of the first units that differ, else of the lengths
abbrev pub text_difference : List ℕ → List ℕ → ℤ
text_difference [] bs = pos 0 -ℤ pos (length bs)
text_difference (a ∷ as') [] = pos (suc (length as'))
text_difference (a ∷ as') (b ∷ bs) = elim (a == b) [ true ↦ text_difference as' bs | false ↦ pos a -ℤ pos b ]

abbrev pub string_compare : NativeMethod
string_compare h (Ref r ∷ Ref s ∷ []) rest = answer_int h rest (text_difference (text_of_object h r) (text_of_object h s))
string_compare h (Ref r ∷ Null ∷ []) rest = null_pointer h
string_compare h _ rest = illegal h

abbrev pub string_concat : NativeMethod
string_concat h (Ref r ∷ Ref s ∷ []) rest = answer_text h rest (text_of_object h r ++ text_of_object h s)
string_concat h (Ref r ∷ Null ∷ []) rest = null_pointer h
string_concat h _ rest = illegal h

-- the units from a place up to another, if the first is not after the second and the second not past the end
abbrev pub part : Here → List Value → List ℕ → (begin end : ℤ) → Outcome
part h rest units (pos begin) (pos end) =
    when (nat_le begin end && nat_le end (length units)) (answer_text h rest (take (end - begin) (drop begin units))) (bad_index h)
part h rest units _ _ = bad_index h

abbrev pub string_substring : NativeMethod
string_substring h (Ref r ∷ Int begin ∷ []) rest =
    part h rest (text_of_object h r) begin (pos (length (text_of_object h r)))
string_substring h (Ref r ∷ Int begin ∷ Int end ∷ []) rest = part h rest (text_of_object h r) begin end
string_substring h _ rest = illegal h

-- the first place from one on at which a text begins, or -1
abbrev pub place_of : ℕ → List ℕ → List ℕ → ℤ
place_of at needle [] = elim (length needle == 0) [ true ↦ pos at | false ↦ negsuc 0 ]
place_of at needle (u ∷ units) =
    elim (starts_with nat_eq (u ∷ units) needle) [ true ↦ pos at | false ↦ place_of (suc at) needle units ]

-- the units of a code point; none where it is none
abbrev pub units_of_point : ℤ → List ℕ
units_of_point (negsuc n) = []
units_of_point (pos n) =
    if nat_lt n 0x10000 then n ∷ []
    else if nat_lt n 0x110000 then (0xd800 + (n - 0x10000) / 0x400) ∷ (0xdc00 + (n - 0x10000) % 0x400) ∷ []
    else []

abbrev pub place_of_point : List ℕ → List ℕ → ℤ
place_of_point units [] = negsuc 0
place_of_point units (u ∷ us) = place_of 0 (u ∷ us) units

abbrev pub string_index_of_point : NativeMethod
string_index_of_point h (Ref r ∷ Int n ∷ []) rest = answer_int h rest (place_of_point (text_of_object h r) (units_of_point n))
string_index_of_point h _ rest = illegal h

abbrev pub string_index_of : NativeMethod
string_index_of h (Ref r ∷ Ref s ∷ []) rest = answer_int h rest (place_of 0 (text_of_object h s) (text_of_object h r))
string_index_of h (Ref r ∷ Null ∷ []) rest = null_pointer h
string_index_of h _ rest = illegal h

abbrev pub string_starts_with : NativeMethod
string_starts_with h (Ref r ∷ Ref s ∷ []) rest = answer_bool h rest (starts_with nat_eq (text_of_object h r) (text_of_object h s))
string_starts_with h (Ref r ∷ Null ∷ []) rest = null_pointer h
string_starts_with h _ rest = illegal h

abbrev pub string_ends_with : NativeMethod
string_ends_with h (Ref r ∷ Ref s ∷ []) rest =
    answer_bool h rest
    (nat_le (length (text_of_object h s)) (length (text_of_object h r)) && ends_with nat_eq (text_of_object h r) (text_of_object h s))
string_ends_with h (Ref r ∷ Null ∷ []) rest = null_pointer h
string_ends_with h _ rest = illegal h

abbrev pub char_array : Here → List ℕ → Object
char_array h units =
    record { class = array_class h.program 1 char_element; size = length units; cells = map (λ u. Int (pos u)) units }

abbrev pub string_to_chars : NativeMethod
string_to_chars h (Ref r ∷ []) rest = push_new h (char_array h (text_of_object h r)) rest
string_to_chars h _ rest = illegal h

-- itself
abbrev pub answer_receiver : NativeMethod
answer_receiver h (Ref r ∷ values) rest = answer h rest (Ref r)
answer_receiver h _ rest = illegal h

-- the text of an argument of print, append and valueOf: of an int, a long, a boolean, a char, a String or null, a char array
abbrev pub Spelling : Type 0
Spelling = Here → Value → Option (List ℕ)

abbrev pub spell_int : Spelling
spell_int h (Int n) = Some (signed_decimal n)
spell_int h _ = None

abbrev pub spell_long : Spelling
spell_long h (Long n) = Some (signed_decimal n)
spell_long h _ = None

abbrev pub spell_bool : Spelling
spell_bool h (Int n) = Some (bool_text n)
spell_bool h _ = None

abbrev pub spell_char : Spelling
spell_char h (Int n) = Some (char_text n)
spell_char h _ = None

abbrev pub spell_string : Spelling
spell_string h (Ref r) = Some (text_of_object h r)
spell_string h Null = Some null_text
spell_string h _ = None

abbrev pub spell_chars : Spelling
spell_chars h (Ref r) = Some (chars_of h r)
spell_chars h _ = None

-- a null char array has no text
abbrev pub if_spelled : Here → Option (List ℕ) → (List ℕ → Outcome) → Outcome
if_spelled h None next = null_pointer h
if_spelled h (Some units) next = next units

abbrev pub value_of : Spelling → NativeMethod
value_of spell h (v ∷ []) rest = if_spelled h (spell h v) (answer_text h rest)
value_of spell h _ rest = illegal h

-- ---- StringBuilder

-- a builder with another text, which is not too long
abbrev pub rewrite : Here → List Value → ℕ → List ℕ → Outcome
rewrite h operands r units = if_short h units (go (with_text h r units) operands)

abbrev pub builder_append : Spelling → NativeMethod
builder_append spell h (Ref r ∷ v ∷ []) rest =
    if_spelled h (spell h v) (λ units. rewrite h (Ref r ∷ rest) r (text_of_object h r ++ units))
builder_append spell h _ rest = illegal h

-- the text is empty whatever the capacity, which is not negative
abbrev pub builder_init_capacity : NativeMethod
builder_init_capacity h (Ref r ∷ Int (pos n) ∷ []) rest = go (with_text h r []) rest
builder_init_capacity h (Ref r ∷ Int (negsuc n) ∷ []) rest = raise h "java/lang/NegativeArraySizeException"
builder_init_capacity h _ rest = illegal h

-- cut, or filled up with units 0
abbrev pub builder_set_length : NativeMethod
builder_set_length h (Ref r ∷ Int (pos n) ∷ []) rest =
    when (nat_lt length_bound n) (raise h "java/lang/OutOfMemoryError")
    (go (with_text h r (take n (text_of_object h r) ++ replicate (n - length (text_of_object h r)) 0)) rest)
builder_set_length h (Ref r ∷ Int (negsuc n) ∷ []) rest = bad_index h
builder_set_length h _ rest = illegal h

abbrev pub builder_delete : NativeMethod
builder_delete h (Ref r ∷ Int i ∷ []) rest =
    let units = text_of_object h r in
    when (is_within i (length units)) (go (with_text h r (take (natural i) units ++ drop (suc (natural i)) units)) (Ref r ∷ rest)) (bad_index h)
builder_delete h _ rest = illegal h

-- the units backwards, but the two of a surrogate pair in their order
abbrev pub reversed_onto : List ℕ → List ℕ → List ℕ
reversed_onto done [] = done
reversed_onto done (u ∷ []) = u ∷ done
reversed_onto done (u ∷ v ∷ units) =
    elim (is_high_surrogate u && is_low_surrogate v)
    [ true ↦ reversed_onto (u ∷ v ∷ done) units | false ↦ reversed_onto (u ∷ done) (v ∷ units) ]

abbrev pub builder_reverse : NativeMethod
builder_reverse h (Ref r ∷ []) rest = go (with_text h r (reversed_onto [] (text_of_object h r))) (Ref r ∷ rest)
builder_reverse h _ rest = illegal h

abbrev pub text_to_string : NativeMethod
text_to_string h (Ref r ∷ []) rest = answer_text h rest (text_of_object h r)
text_to_string h _ rest = illegal h

-- ---- Class

abbrev pub answer_false : NativeMethod
answer_false h values rest = answer_bool h rest false

-- ---- PrintStream

abbrev pub stream_of_cell : Value → Stream
stream_of_cell (Int (pos zero)) = Out
stream_of_cell _ = Err

abbrev pub write_units : Here → List Value → ℕ → List ℕ → Outcome
write_units h rest r units = Write (stream_of_cell (cell_at h.state r 0)) units (past h h.state rest)

-- print and println of a value
abbrev pub print_of : Spelling → (line_end : List ℕ) → NativeMethod
print_of spell line_end h (Ref r ∷ v ∷ []) rest =
    if_spelled h (spell h v) (λ units. write_units h rest r (units ++ line_end))
print_of spell line_end h _ rest = illegal h

-- println of nothing
abbrev pub print_line_end : NativeMethod
print_line_end h (Ref r ∷ []) rest = write_units h rest r (10 ∷ [])
print_line_end h _ rest = illegal h

abbrev pub stream_flush : NativeMethod
stream_flush h values rest = go h rest
