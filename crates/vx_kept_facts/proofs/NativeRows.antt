-- What carrying out a native method comes to.
use Rattle.vx_class.specs.Members.{STATIC}
use Rattle.vx_java.specs.Calls.{arguments_off}
use Rattle.vx_link.specs.Signature.{signature}
use Rattle.std.proofs.Common.{List, Option, [], map, refl, subst, suc, unwrap_or, zero, ℕ, ◌∷◌, ◌≡◌}
use Rattle.std.specs.Int.{int_max, int_min}
use Rattle.std.specs.Prelude.{slice_get}
use Rattle.vx_class.specs.declared.class_file.Code.{Code}
use Rattle.vx_java.specs.Library.{absolute_int, absolute_long, add_suppressed, array_copy, boolean_to_string, boolean_value_of, compare_numbers, enum_compare, enum_init, exit, first_cell, integer_compare, integer_int_value, integer_long_value, integer_parse, integer_to_string, integer_to_string_of, integer_value_of, line_separator, of_ints, of_longs, same_number, second_cell, throwable_class_name, throwable_init}
use Rattle.vx_java.specs.Machine.{Here, State, Value, current_class}
use Rattle.vx_java.specs.Natives.{apply, apply_to, carried_out, native, native_methods, native_of, no_code, no_native}
use Rattle.vx_java.specs.Returns.{instruction_size}
use Rattle.vx_java.specs.Texts.{NativeMethod, answer_false, answer_receiver, builder_append, builder_delete, builder_init_capacity, builder_reverse, builder_set_length, object_init, print_line_end, print_of, same_object, spell_bool, spell_char, spell_chars, spell_int, spell_long, spell_string, stream_flush, string_compare, string_concat, string_ends_with, string_equals, string_hash, string_index_of, string_index_of_point, string_init, string_init_chars, string_init_string, string_starts_with, string_substring, string_to_chars, text_char_at, text_is_empty, text_length, text_to_string, value_of}
use Rattle.vx_kept_facts.proofs.LibraryRows.{absolute_int_comes, absolute_long_comes, add_suppressed_comes, array_copy_comes, boolean_to_string_comes, boolean_value_of_comes, compare_numbers_comes, enum_compare_comes, enum_init_comes, exit_comes, first_cell_comes, integer_compare_comes, integer_int_value_comes, integer_long_value_comes, integer_parse_comes, integer_to_string_comes, integer_to_string_of_comes, integer_value_of_comes, line_separator_comes, of_ints_comes, of_longs_comes, same_number_comes, second_cell_comes, throwable_class_name_comes, throwable_init_comes}
use Rattle.vx_kept_facts.proofs.TextRows.{Comes, answer_false_comes, answer_receiver_comes, builder_append_comes, builder_delete_comes, builder_init_capacity_comes, builder_reverse_comes, builder_set_length_comes, object_init_comes, print_line_end_comes, print_of_comes, same_object_comes, stream_flush_comes, string_compare_comes, string_concat_comes, string_ends_with_comes, string_equals_comes, string_hash_comes, string_index_of_comes, string_index_of_point_comes, string_init_chars_comes, string_init_comes, string_init_string_comes, string_starts_with_comes, string_substring_comes, string_to_chars_comes, text_char_at_comes, text_is_empty_comes, text_length_comes, text_to_string_comes, value_of_comes}
use Rattle.vx_link.specs.Parts.{class_at, has}
use Rattle.vx_link.specs.declared.program.LinkedMethod.{LinkedMethod}
use Rattle.vx_link.specs.declared.program.Program.{Program}
use Rattle.vx_opcode.specs.Decode.{instruction_at}
use Rattle.vx_kept_facts.proofs.Claims.{Claim, arguments_come, chosen}

-- a native method with what is said of it
record Known (claim : Claim) : Type 0 where
  pub method : NativeMethod
  pub comes : Comes claim method

module _ (claim : Claim) where
  -- ---- the table

  abbrev knows : (f : NativeMethod) → Comes claim f → Known claim
  knows f comes = record { method = f; comes = comes }

  abbrev natives : List (Known claim)
  natives =
      knows object_init (object_init_comes claim) ∷ knows same_object (same_object_comes claim)
      ∷ knows string_init (string_init_comes claim) ∷ knows string_init_string (string_init_string_comes claim) ∷ knows string_init_chars (string_init_chars_comes claim)
      ∷ knows text_length (text_length_comes claim) ∷ knows text_is_empty (text_is_empty_comes claim) ∷ knows text_char_at (text_char_at_comes claim) ∷ knows string_hash (string_hash_comes claim) ∷ knows string_equals (string_equals_comes claim)
      ∷ knows string_compare (string_compare_comes claim) ∷ knows string_concat (string_concat_comes claim) ∷ knows string_substring (string_substring_comes claim) ∷ knows string_substring (string_substring_comes claim)
      ∷ knows string_index_of_point (string_index_of_point_comes claim) ∷ knows string_index_of (string_index_of_comes claim) ∷ knows string_starts_with (string_starts_with_comes claim) ∷ knows string_ends_with (string_ends_with_comes claim)
      ∷ knows string_to_chars (string_to_chars_comes claim) ∷ knows answer_receiver (answer_receiver_comes claim)
      ∷ knows (value_of spell_int) (value_of_comes claim spell_int) ∷ knows (value_of spell_long) (value_of_comes claim spell_long) ∷ knows (value_of spell_bool) (value_of_comes claim spell_bool) ∷ knows (value_of spell_char) (value_of_comes claim spell_char) ∷ knows (value_of spell_chars) (value_of_comes claim spell_chars)
      ∷ knows string_init (string_init_comes claim) ∷ knows builder_init_capacity (builder_init_capacity_comes claim) ∷ knows string_init_string (string_init_string_comes claim)
      ∷ knows (builder_append spell_int) (builder_append_comes claim spell_int) ∷ knows (builder_append spell_long) (builder_append_comes claim spell_long) ∷ knows (builder_append spell_bool) (builder_append_comes claim spell_bool) ∷ knows (builder_append spell_char) (builder_append_comes claim spell_char) ∷ knows (builder_append spell_string) (builder_append_comes claim spell_string)
      ∷ knows text_length (text_length_comes claim) ∷ knows text_char_at (text_char_at_comes claim) ∷ knows builder_set_length (builder_set_length_comes claim) ∷ knows builder_delete (builder_delete_comes claim) ∷ knows builder_reverse (builder_reverse_comes claim) ∷ knows text_to_string (text_to_string_comes claim)
      ∷ knows answer_false (answer_false_comes claim)
      ∷ knows (print_of spell_bool []) (print_of_comes claim spell_bool []) ∷ knows (print_of spell_char []) (print_of_comes claim spell_char []) ∷ knows (print_of spell_int []) (print_of_comes claim spell_int []) ∷ knows (print_of spell_long []) (print_of_comes claim spell_long []) ∷ knows (print_of spell_string []) (print_of_comes claim spell_string []) ∷ knows (print_of spell_chars []) (print_of_comes claim spell_chars [])
      ∷ knows (print_of spell_bool (10 ∷ [])) (print_of_comes claim spell_bool (10 ∷ [])) ∷ knows (print_of spell_char (10 ∷ [])) (print_of_comes claim spell_char (10 ∷ [])) ∷ knows (print_of spell_int (10 ∷ [])) (print_of_comes claim spell_int (10 ∷ [])) ∷ knows (print_of spell_long (10 ∷ [])) (print_of_comes claim spell_long (10 ∷ [])) ∷ knows (print_of spell_string (10 ∷ [])) (print_of_comes claim spell_string (10 ∷ [])) ∷ knows (print_of spell_chars (10 ∷ [])) (print_of_comes claim spell_chars (10 ∷ []))
      ∷ knows print_line_end (print_line_end_comes claim) ∷ knows stream_flush (stream_flush_comes claim)
      ∷ knows array_copy (array_copy_comes claim) ∷ knows exit (exit_comes claim) ∷ knows line_separator (line_separator_comes claim)
      ∷ knows object_init (object_init_comes claim)
      ∷ knows integer_value_of (integer_value_of_comes claim) ∷ knows integer_parse (integer_parse_comes claim) ∷ knows integer_to_string_of (integer_to_string_of_comes claim) ∷ knows integer_compare (integer_compare_comes claim)
      ∷ knows integer_int_value (integer_int_value_comes claim) ∷ knows integer_long_value (integer_long_value_comes claim) ∷ knows integer_to_string (integer_to_string_comes claim) ∷ knows same_number (same_number_comes claim) ∷ knows integer_int_value (integer_int_value_comes claim) ∷ knows compare_numbers (compare_numbers_comes claim)
      ∷ knows boolean_value_of (boolean_value_of_comes claim) ∷ knows integer_int_value (integer_int_value_comes claim) ∷ knows boolean_to_string (boolean_to_string_comes claim) ∷ knows same_number (same_number_comes claim) ∷ knows compare_numbers (compare_numbers_comes claim)
      ∷ knows absolute_int (absolute_int_comes claim) ∷ knows absolute_long (absolute_long_comes claim) ∷ knows (of_ints int_max) (of_ints_comes claim int_max) ∷ knows (of_longs int_max) (of_longs_comes claim int_max) ∷ knows (of_ints int_min) (of_ints_comes claim int_min) ∷ knows (of_longs int_min) (of_longs_comes claim int_min)
      ∷ knows enum_init (enum_init_comes claim) ∷ knows first_cell (first_cell_comes claim) ∷ knows second_cell (second_cell_comes claim) ∷ knows first_cell (first_cell_comes claim) ∷ knows same_object (same_object_comes claim) ∷ knows enum_compare (enum_compare_comes claim)
      ∷ knows throwable_init (throwable_init_comes claim) ∷ knows throwable_init (throwable_init_comes claim) ∷ knows throwable_init (throwable_init_comes claim) ∷ knows first_cell (first_cell_comes claim) ∷ knows second_cell (second_cell_comes claim) ∷ knows throwable_class_name (throwable_class_name_comes claim) ∷ knows add_suppressed (add_suppressed_comes claim)
      ∷ []

  all_known : map (λ k. k.method) natives ≡ native_methods
  all_known = refl

  known_at : (known : List (Known claim)) (n : ℕ) → Comes claim (unwrap_or (slice_get (map (λ k. k.method) known) n) no_native)
  known_at [] n = λ h at values rest. (claim.breaks h)
  known_at (k ∷ known) zero = k.comes
  known_at (k ∷ known) (suc n) = known_at known n

  native_of_comes : (n : ℕ) → Comes claim (native_of n)
  native_of_comes zero = λ h at values rest. (claim.breaks h)
  native_of_comes (suc n) =
      let P : List NativeMethod → Type 0 = λ methods. Comes claim (unwrap_or (slice_get methods n) no_native) in
      subst P all_known (known_at natives n)

  -- ---- carrying out

  apply_comes : (h : Here) → claim.At h → (m : LinkedMethod) (receiver arguments rest : List Value) → claim.May h.program (apply h m receiver arguments rest)
  apply_comes h at m receiver arguments rest = chosen claim h.program _ _ _ (native_of_comes m.native h at _ rest) (claim.breaks h)

  apply_to_comes : (h : Here) → claim.At h → (m : LinkedMethod) (arguments below : List Value) → claim.May h.program (apply_to h m arguments below)
  apply_to_comes h at m arguments [] = claim.breaks h
  apply_to_comes h at m arguments (o ∷ rest) = chosen claim h.program _ _ _ (apply_comes h at m (o ∷ []) arguments rest) (claim.breaks h)

  pub carried_out_comes : (h : Here) → claim.At h → (m : LinkedMethod) → claim.May h.program (carried_out h m)
  carried_out_comes h at m =
      arguments_come claim h (arguments_off (signature m.descriptor).arguments h.state.top.operands) _
      (λ arguments below. chosen claim h.program (has STATIC m.flags) _ _ (apply_comes h at m [] arguments below) (apply_to_comes h at m arguments below))

-- what a native method sees at the position of the top frame
abbrev pub seen : Program → State → Option Code → Here
seen p s code =
    record {
      program = p;
      state = s;
      code = unwrap_or code no_code;
      pool = (class_at p (current_class p s)).pool;
      size = instruction_size (instruction_at (unwrap_or code no_code).bytes s.top.position);
    }
