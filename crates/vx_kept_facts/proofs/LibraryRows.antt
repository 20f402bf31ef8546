-- What the native methods of System, Number, Integer, Boolean, Math, Enum and Throwable come to.
use Rattle.std.proofs.Common.{List, None, Option, Some, [], refl, ℕ, ℤ, ◌∷◌}
use Rattle.vx_java.specs.Library.{absolute_int, absolute_long, add_suppressed, array_copy, boolean_to_string, boolean_value_of, compare_numbers, copy_within, enum_compare, enum_init, exit, first_cell, if_in_range, integer_compare, integer_int_value, integer_long_value, integer_parse, integer_to_string, integer_to_string_of, integer_value_of, line_separator, not_a_number, of_ints, of_longs, same_number, second_cell, signed_value, throwable_class_name, throwable_init}
use Rattle.vx_java.specs.Machine.{Here, Int, Long, Null, Ref, Value, raise}
use Rattle.vx_java.specs.Texts.{text_of_object}
use Rattle.vx_kept_facts.proofs.Claims.{Claim, chosen, null_pointer}
use Rattle.vx_kept_facts.proofs.TextRows.{Comes, text_comes}

module _ (claim : Claim) where
  -- ---- System

  no_store : (h : Here) → claim.At h → claim.May h.program (raise h "java/lang/ArrayStoreException")
  no_store h at = claim.raises h at "java/lang/ArrayStoreException" refl

  out_of_bounds : (h : Here) → claim.At h → claim.May h.program (raise h "java/lang/ArrayIndexOutOfBoundsException")
  out_of_bounds h at = claim.raises h at "java/lang/ArrayIndexOutOfBoundsException" refl

  copy_comes : (h : Here) → claim.At h → (rest : List Value) (from : ℕ) (i : ℤ) (to : ℕ) (j count : ℤ) → claim.May h.program (copy_within h rest from i to j count)
  copy_comes h at rest from i to j count = chosen claim h.program _ _ _ (claim.passes h at) (claim.raises h at "java/lang/ArrayStoreException" refl)

  pub array_copy_comes : Comes claim array_copy
  array_copy_comes h at (Ref from ∷ Int i ∷ Ref to ∷ Int j ∷ Int count ∷ []) rest =
      chosen claim h.program _ _ _ (no_store h at) (chosen claim h.program _ _ _ (copy_comes h at rest from i to j count) (out_of_bounds h at))
  array_copy_comes h at (a ∷ Int i ∷ b ∷ Int j ∷ Int count ∷ []) rest = null_pointer claim h at
  array_copy_comes h at _ rest = claim.breaks h

  pub exit_comes : Comes claim exit
  exit_comes h at (Int k ∷ []) rest = claim.exits h k
  exit_comes h at _ rest = claim.breaks h

  pub line_separator_comes : Comes claim line_separator
  line_separator_comes h at values rest = text_comes claim h at rest (10 ∷ [])

  -- ---- Integer

  pub integer_value_of_comes : Comes claim integer_value_of
  integer_value_of_comes h at (Int n ∷ []) rest = chosen claim h.program _ _ _ (claim.passes h at) (claim.passes h at)
  integer_value_of_comes h at _ rest = claim.breaks h

  no_number : (h : Here) → claim.At h → claim.May h.program (not_a_number h)
  no_number h at = claim.raises h at "java/lang/NumberFormatException" refl

  range_comes : (h : Here) → claim.At h → (rest : List Value) (n : Option ℤ) → claim.May h.program (if_in_range h rest n)
  range_comes h at rest None = no_number h at
  range_comes h at rest (Some n) = chosen claim h.program _ _ _ (claim.passes h at) (no_number h at)

  pub integer_parse_comes : Comes claim integer_parse
  integer_parse_comes h at (Ref r ∷ []) rest = range_comes h at rest (signed_value (text_of_object h r))
  integer_parse_comes h at _ rest = no_number h at

  pub integer_to_string_of_comes : Comes claim integer_to_string_of
  integer_to_string_of_comes h at (Int n ∷ []) rest = text_comes claim h at rest _
  integer_to_string_of_comes h at _ rest = claim.breaks h

  pub integer_compare_comes : Comes claim integer_compare
  integer_compare_comes h at (Int a ∷ Int b ∷ []) rest = claim.passes h at
  integer_compare_comes h at _ rest = claim.breaks h

  pub integer_int_value_comes : Comes claim integer_int_value
  integer_int_value_comes h at (Ref r ∷ []) rest = claim.passes h at
  integer_int_value_comes h at _ rest = claim.breaks h

  pub integer_long_value_comes : Comes claim integer_long_value
  integer_long_value_comes h at (Ref r ∷ []) rest = claim.passes h at
  integer_long_value_comes h at _ rest = claim.breaks h

  pub integer_to_string_comes : Comes claim integer_to_string
  integer_to_string_comes h at (Ref r ∷ []) rest = text_comes claim h at rest _
  integer_to_string_comes h at _ rest = claim.breaks h

  pub same_number_comes : Comes claim same_number
  same_number_comes h at (Ref r ∷ Ref s ∷ []) rest = claim.passes h at
  same_number_comes h at (Ref r ∷ Null ∷ []) rest = claim.passes h at
  same_number_comes h at _ rest = claim.breaks h

  pub compare_numbers_comes : Comes claim compare_numbers
  compare_numbers_comes h at (Ref r ∷ Ref s ∷ []) rest = claim.passes h at
  compare_numbers_comes h at (Ref r ∷ Null ∷ []) rest = null_pointer claim h at
  compare_numbers_comes h at _ rest = claim.breaks h

  -- ---- Boolean

  pub boolean_value_of_comes : Comes claim boolean_value_of
  boolean_value_of_comes h at (Int n ∷ []) rest = claim.passes h at
  boolean_value_of_comes h at _ rest = claim.breaks h

  pub boolean_to_string_comes : Comes claim boolean_to_string
  boolean_to_string_comes h at (Ref r ∷ []) rest = text_comes claim h at rest _
  boolean_to_string_comes h at _ rest = claim.breaks h

  -- ---- Math

  pub absolute_int_comes : Comes claim absolute_int
  absolute_int_comes h at (Int a ∷ []) rest = claim.passes h at
  absolute_int_comes h at _ rest = claim.breaks h

  pub absolute_long_comes : Comes claim absolute_long
  absolute_long_comes h at (Long a ∷ []) rest = claim.passes h at
  absolute_long_comes h at _ rest = claim.breaks h

  pub of_ints_comes : (f : ℤ → ℤ → ℤ) → Comes claim (of_ints f)
  of_ints_comes f h at (Int a ∷ Int b ∷ []) rest = claim.passes h at
  of_ints_comes f h at _ rest = claim.breaks h

  pub of_longs_comes : (f : ℤ → ℤ → ℤ) → Comes claim (of_longs f)
  of_longs_comes f h at (Long a ∷ Long b ∷ []) rest = claim.passes h at
  of_longs_comes f h at _ rest = claim.breaks h

  -- ---- Enum

  pub enum_init_comes : Comes claim enum_init
  enum_init_comes h at (Ref r ∷ Ref name ∷ Int ordinal ∷ []) rest = claim.passes h at
  enum_init_comes h at (Ref r ∷ Null ∷ Int ordinal ∷ []) rest = null_pointer claim h at
  enum_init_comes h at _ rest = claim.breaks h

  pub first_cell_comes : Comes claim first_cell
  first_cell_comes h at (Ref r ∷ []) rest = claim.passes h at
  first_cell_comes h at _ rest = claim.breaks h

  pub second_cell_comes : Comes claim second_cell
  second_cell_comes h at (Ref r ∷ []) rest = claim.passes h at
  second_cell_comes h at _ rest = claim.breaks h

  pub enum_compare_comes : Comes claim enum_compare
  enum_compare_comes h at (Ref r ∷ Ref s ∷ []) rest = claim.passes h at
  enum_compare_comes h at (Ref r ∷ Null ∷ []) rest = null_pointer claim h at
  enum_compare_comes h at _ rest = claim.breaks h

  -- ---- Throwable

  pub throwable_init_comes : Comes claim throwable_init
  throwable_init_comes h at (Ref r ∷ []) rest = claim.passes h at
  throwable_init_comes h at (Ref r ∷ message ∷ []) rest = claim.passes h at
  throwable_init_comes h at (Ref r ∷ message ∷ cause ∷ []) rest = claim.passes h at
  throwable_init_comes h at _ rest = claim.breaks h

  pub throwable_class_name_comes : Comes claim throwable_class_name
  throwable_class_name_comes h at (Ref r ∷ []) rest = text_comes claim h at rest _
  throwable_class_name_comes h at _ rest = claim.breaks h

  pub add_suppressed_comes : Comes claim add_suppressed
  add_suppressed_comes h at (Ref r ∷ Ref s ∷ []) rest = claim.passes h at
  add_suppressed_comes h at (Ref r ∷ Null ∷ []) rest = null_pointer claim h at
  add_suppressed_comes h at _ rest = claim.breaks h
