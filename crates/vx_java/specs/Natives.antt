-- The native methods by their numbers, and what carrying one out asks first.
use Rattle.std.specs.Int.{int_max, int_min}
use Rattle.std.specs.Prelude.{Bool, List, None, Option, Some, [], slice_get, suc, true, unwrap_or, zero, ℕ, ◌&&◌, ◌++◌, ◌∷◌}
use Rattle.vx_class.specs.Members.{STATIC}
use Rattle.vx_class.specs.declared.class_file.Code.{Code}
use Rattle.vx_desc.specs.declared.java_type.JavaType.{JavaType}
use Rattle.vx_java.specs.Calls.{arguments_off, if_arguments}
use Rattle.vx_java.specs.Checks.{is_instance_of, width_of_type}
use Rattle.vx_java.specs.FirstObjects.{narrowed_value}
use Rattle.vx_java.specs.Library.{absolute_int, absolute_long, add_suppressed, array_copy, boolean_to_string, boolean_value_of, compare_numbers, enum_compare, enum_init, exit, first_cell, integer_compare, integer_int_value, integer_long_value, integer_parse, integer_to_string, integer_to_string_of, integer_value_of, line_separator, of_ints, of_longs, same_number, second_cell, throwable_class_name, throwable_init}
use Rattle.vx_java.specs.Machine.{Here, Outcome, State, Value, current_class, has_room, illegal, when}
use Rattle.vx_java.specs.Returns.{instruction_size}
use Rattle.vx_java.specs.Texts.{NativeMethod, answer_false, answer_receiver, builder_append, builder_delete, builder_init_capacity, builder_reverse, builder_set_length, object_init, print_line_end, print_of, same_object, spell_bool, spell_char, spell_chars, spell_int, spell_long, spell_string, stream_flush, string_compare, string_concat, string_ends_with, string_equals, string_hash, string_index_of, string_index_of_point, string_init, string_init_chars, string_init_string, string_starts_with, string_substring, string_to_chars, text_char_at, text_is_empty, text_length, text_to_string, value_of}
use Rattle.vx_link.specs.ClassNames.{class_of_type}
use Rattle.vx_link.specs.Parts.{class_at, has, method_at}
use Rattle.vx_link.specs.Signature.{signature}
use Rattle.vx_link.specs.declared.program.LinkedMethod.{LinkedMethod}
use Rattle.vx_link.specs.declared.program.Program.{Program}
use Rattle.vx_opcode.specs.Decode.{instruction_at}

-- the native methods from number 1 on
abbrev pub native_methods : List NativeMethod
native_methods =
    object_init ∷ same_object  -- 1, 2: Object <init>, equals
    ∷ string_init ∷ string_init_string ∷ string_init_chars  -- 3 to 5: String <init>
    ∷ text_length ∷ text_is_empty ∷ text_char_at ∷ string_hash ∷ string_equals  -- 6 to 10: length, isEmpty, charAt, hashCode, equals
    ∷ string_compare ∷ string_concat ∷ string_substring ∷ string_substring  -- 11 to 14: compareTo, concat, substring of one and two
    ∷ string_index_of_point ∷ string_index_of ∷ string_starts_with ∷ string_ends_with  -- 15 to 18: indexOf of a point and a text, startsWith, endsWith
    ∷ string_to_chars ∷ answer_receiver  -- 19, 20: toCharArray, toString
    ∷ value_of spell_int ∷ value_of spell_long ∷ value_of spell_bool ∷ value_of spell_char ∷ value_of spell_chars  -- 21 to 25: valueOf of I, J, Z, C, [C
    ∷ string_init ∷ builder_init_capacity ∷ string_init_string  -- 26 to 28: StringBuilder <init>
    ∷ builder_append spell_int ∷ builder_append spell_long ∷ builder_append spell_bool ∷ builder_append spell_char ∷ builder_append spell_string  -- 29 to 33: append of I, J, Z, C, String
    ∷ text_length ∷ text_char_at ∷ builder_set_length ∷ builder_delete ∷ builder_reverse ∷ text_to_string  -- 34 to 39: length, charAt, setLength, deleteCharAt, reverse, toString
    ∷ answer_false  -- 40: desiredAssertionStatus
    ∷ print_of spell_bool [] ∷ print_of spell_char [] ∷ print_of spell_int [] ∷ print_of spell_long [] ∷ print_of spell_string [] ∷ print_of spell_chars []  -- 41 to 46: print of Z, C, I, J, String, [C
    ∷ print_of spell_bool (10 ∷ []) ∷ print_of spell_char (10 ∷ []) ∷ print_of spell_int (10 ∷ []) ∷ print_of spell_long (10 ∷ []) ∷ print_of spell_string (10 ∷ []) ∷ print_of spell_chars (10 ∷ [])  -- 47 to 52: println of the same
    ∷ print_line_end ∷ stream_flush  -- 53, 54: println, flush
    ∷ array_copy ∷ exit ∷ line_separator  -- 55 to 57: System
    ∷ object_init  -- 58: Number <init>
    ∷ integer_value_of ∷ integer_parse ∷ integer_to_string_of ∷ integer_compare  -- 59 to 62: Integer valueOf, parseInt, toString(I), compare
    ∷ integer_int_value ∷ integer_long_value ∷ integer_to_string ∷ same_number ∷ integer_int_value ∷ compare_numbers  -- 63 to 68: intValue, longValue, toString, equals, hashCode, compareTo
    ∷ boolean_value_of ∷ integer_int_value ∷ boolean_to_string ∷ same_number ∷ compare_numbers  -- 69 to 73: Boolean valueOf, booleanValue, toString, equals, compareTo
    ∷ absolute_int ∷ absolute_long ∷ of_ints int_max ∷ of_longs int_max ∷ of_ints int_min ∷ of_longs int_min  -- 74 to 79: Math abs, max, min
    ∷ enum_init ∷ first_cell ∷ second_cell ∷ first_cell ∷ same_object ∷ enum_compare  -- 80 to 85: Enum <init>, name, ordinal, toString, equals, compareTo
    ∷ throwable_init ∷ throwable_init ∷ throwable_init ∷ first_cell ∷ second_cell ∷ throwable_class_name ∷ add_suppressed  -- 86 to 92: Throwable <init>, getMessage, getCause, className0, addSuppressed
    ∷ []

abbrev pub no_native : NativeMethod
no_native h values rest = illegal h

abbrev pub native_of : ℕ → NativeMethod
native_of zero = no_native
native_of (suc n) = unwrap_or (slice_get native_methods n) no_native

-- ---- what carrying out a native method asks first

-- the classes of its descriptor: a reference is of the class of its type, or null
abbrev pub is_wanted : Here → Option ℕ → Value → Bool
is_wanted h None v = true
is_wanted h (Some c) v = is_instance_of h c v

abbrev pub are_wanted : Here → (descriptor : List ℕ) → List JavaType → List Value → Bool
are_wanted h descriptor [] values = true
are_wanted h descriptor (t ∷ ts) [] = true
are_wanted h descriptor (t ∷ ts) (v ∷ vs) =
    is_wanted h (class_of_type h.program descriptor t) v && are_wanted h descriptor ts vs

-- an argument is read as a store to a field of its type would narrow it
abbrev pub as_read : List JavaType → List Value → List Value
as_read [] values = values
as_read (t ∷ ts) [] = []
as_read (t ∷ ts) (v ∷ vs) = narrowed_value t v ∷ as_read ts vs

-- room for the result
abbrev pub room_for : Here → Option JavaType → List Value → Bool
room_for h None rest = true
room_for h (Some t) rest = has_room h (width_of_type t) rest

-- the arguments, behind a receiver where there is one, and the values under them
abbrev pub apply : Here → LinkedMethod → (receiver : List Value) → (arguments rest : List Value) → Outcome
apply h m receiver arguments rest =
    let s = signature m.descriptor in
    when (are_wanted h m.descriptor s.arguments arguments && room_for h s.result rest)
    (native_of m.native h (receiver ++ as_read s.arguments arguments) rest)
    (illegal h)

-- the receiver under the arguments is of the method's own class
abbrev pub apply_to : Here → LinkedMethod → (arguments below : List Value) → Outcome
apply_to h m arguments [] = illegal h
apply_to h m arguments (o ∷ rest) = when (is_instance_of h m.class.0 o) (apply h m (o ∷ []) arguments rest) (illegal h)

abbrev pub carried_out : Here → LinkedMethod → Outcome
carried_out h m =
    if_arguments h (arguments_off (signature m.descriptor).arguments h.state.top.operands) (λ arguments below.
    when (has STATIC m.flags) (apply h m [] arguments below) (apply_to h m arguments below))

abbrev pub no_code : Code
no_code = record { max_stack = 0; max_locals = 0; bytes = []; catches = [] }

-- a native method at the call that stands at the position of the top frame, where its arguments still stand
abbrev pub native : Program → State → ℕ → Outcome
native p s m =
    let code = unwrap_or (method_at p s.top.method).code no_code in
    carried_out
    (record {
      program = p;
      state = s;
      code = code;
      pool = (class_at p (current_class p s)).pool;
      size = instruction_size (instruction_at code.bytes s.top.position);
    })
    (method_at p m)
