-- What the native methods of Object, String, StringBuilder, Class and PrintStream come to.
use Rattle.std.proofs.Common.{List, None, Option, Some, [], drop, negsuc, pos, refl, take, ℕ, ℤ, ◌-◌, ◌∷◌}
use Rattle.vx_java.specs.Machine.{Here, Int, Null, Outcome, Ref, Value}
use Rattle.vx_java.specs.Texts.{NativeMethod, Spelling, answer_false, answer_receiver, answer_text, bad_index, builder_append, builder_delete, builder_init_capacity, builder_reverse, builder_set_length, if_short, if_spelled, object_init, part, print_line_end, print_of, rewrite, same_object, stream_flush, string_compare, string_concat, string_ends_with, string_equals, string_hash, string_index_of, string_index_of_point, string_init, string_init_chars, string_init_string, string_starts_with, string_substring, string_to_chars, text_char_at, text_is_empty, text_length, text_to_string, value_of}
use Rattle.vx_kept_facts.proofs.Claims.{Claim, chosen, negative_size, no_memory, null_pointer}

module _ (claim : Claim) where
  -- what a native method comes to, whatever it is given
  abbrev pub Comes : NativeMethod → Type 0
  Comes f = (h : Here) → claim.At h → (values rest : List Value) → claim.May h.program (f h values rest)

  pub short_comes : (h : Here) → claim.At h → (units : List ℕ) (next : Outcome) → claim.May h.program next → claim.May h.program (if_short h units next)
  short_comes h at units next comes = chosen claim h.program _ _ _ (no_memory claim h at) comes

  pub text_comes : (h : Here) → claim.At h → (rest : List Value) (units : List ℕ) → claim.May h.program (answer_text h rest units)
  text_comes h at rest units = short_comes h at units _ (claim.passes h at)

  index_comes : (h : Here) → claim.At h → claim.May h.program (bad_index h)
  index_comes h at = claim.raises h at "java/lang/StringIndexOutOfBoundsException" refl

  -- ---- Object

  pub object_init_comes : Comes object_init
  object_init_comes h at values rest = claim.passes h at

  pub same_object_comes : Comes same_object
  same_object_comes h at (a ∷ b ∷ []) rest = claim.passes h at
  same_object_comes h at _ rest = claim.breaks h

  -- ---- String

  pub string_init_comes : Comes string_init
  string_init_comes h at (Ref r ∷ []) rest = claim.passes h at
  string_init_comes h at _ rest = claim.breaks h

  pub string_init_string_comes : Comes string_init_string
  string_init_string_comes h at (Ref r ∷ Ref s ∷ []) rest = claim.passes h at
  string_init_string_comes h at (Ref r ∷ Null ∷ []) rest = null_pointer claim h at
  string_init_string_comes h at _ rest = claim.breaks h

  pub string_init_chars_comes : Comes string_init_chars
  string_init_chars_comes h at (Ref r ∷ Ref a ∷ []) rest = claim.passes h at
  string_init_chars_comes h at (Ref r ∷ Null ∷ []) rest = null_pointer claim h at
  string_init_chars_comes h at _ rest = claim.breaks h

  pub text_length_comes : Comes text_length
  text_length_comes h at (Ref r ∷ []) rest = claim.passes h at
  text_length_comes h at _ rest = claim.breaks h

  pub text_is_empty_comes : Comes text_is_empty
  text_is_empty_comes h at (Ref r ∷ []) rest = claim.passes h at
  text_is_empty_comes h at _ rest = claim.breaks h

  pub text_char_at_comes : Comes text_char_at
  text_char_at_comes h at (Ref r ∷ Int i ∷ []) rest = chosen claim h.program _ _ _ (claim.passes h at) (index_comes h at)
  text_char_at_comes h at _ rest = claim.breaks h

  pub string_hash_comes : Comes string_hash
  string_hash_comes h at (Ref r ∷ []) rest = claim.passes h at
  string_hash_comes h at _ rest = claim.breaks h

  pub string_equals_comes : Comes string_equals
  string_equals_comes h at (Ref r ∷ Ref s ∷ []) rest = claim.passes h at
  string_equals_comes h at (Ref r ∷ Null ∷ []) rest = claim.passes h at
  string_equals_comes h at _ rest = claim.breaks h

  pub string_compare_comes : Comes string_compare
  string_compare_comes h at (Ref r ∷ Ref s ∷ []) rest = claim.passes h at
  string_compare_comes h at (Ref r ∷ Null ∷ []) rest = null_pointer claim h at
  string_compare_comes h at _ rest = claim.breaks h

  pub string_concat_comes : Comes string_concat
  string_concat_comes h at (Ref r ∷ Ref s ∷ []) rest = text_comes h at rest _
  string_concat_comes h at (Ref r ∷ Null ∷ []) rest = null_pointer claim h at
  string_concat_comes h at _ rest = claim.breaks h

  part_comes : (h : Here) → claim.At h → (rest : List Value) (units : List ℕ) (begin end : ℤ) → claim.May h.program (part h rest units begin end)
  part_comes h at rest units (pos begin) (pos end) = chosen claim h.program _ _ _ (text_comes h at rest (take (end - begin) (drop begin units))) (index_comes h at)
  part_comes h at rest units _ _ = index_comes h at

  pub string_substring_comes : Comes string_substring
  string_substring_comes h at (Ref r ∷ Int begin ∷ []) rest = part_comes h at rest _ begin _
  string_substring_comes h at (Ref r ∷ Int begin ∷ Int end ∷ []) rest = part_comes h at rest _ begin end
  string_substring_comes h at _ rest = claim.breaks h

  pub string_index_of_point_comes : Comes string_index_of_point
  string_index_of_point_comes h at (Ref r ∷ Int n ∷ []) rest = claim.passes h at
  string_index_of_point_comes h at _ rest = claim.breaks h

  pub string_index_of_comes : Comes string_index_of
  string_index_of_comes h at (Ref r ∷ Ref s ∷ []) rest = claim.passes h at
  string_index_of_comes h at (Ref r ∷ Null ∷ []) rest = null_pointer claim h at
  string_index_of_comes h at _ rest = claim.breaks h

  pub string_starts_with_comes : Comes string_starts_with
  string_starts_with_comes h at (Ref r ∷ Ref s ∷ []) rest = claim.passes h at
  string_starts_with_comes h at (Ref r ∷ Null ∷ []) rest = null_pointer claim h at
  string_starts_with_comes h at _ rest = claim.breaks h

  pub string_ends_with_comes : Comes string_ends_with
  string_ends_with_comes h at (Ref r ∷ Ref s ∷ []) rest = claim.passes h at
  string_ends_with_comes h at (Ref r ∷ Null ∷ []) rest = null_pointer claim h at
  string_ends_with_comes h at _ rest = claim.breaks h

  pub string_to_chars_comes : Comes string_to_chars
  string_to_chars_comes h at (Ref r ∷ []) rest = claim.passes h at
  string_to_chars_comes h at _ rest = claim.breaks h

  pub answer_receiver_comes : Comes answer_receiver
  answer_receiver_comes h at (Ref r ∷ values) rest = claim.passes h at
  answer_receiver_comes h at _ rest = claim.breaks h

  spelled_comes : (h : Here) → claim.At h → (units : Option (List ℕ)) (next : List ℕ → Outcome) → ((units : List ℕ) → claim.May h.program (next units)) → claim.May h.program (if_spelled h units next)
  spelled_comes h at None next each = null_pointer claim h at
  spelled_comes h at (Some units) next each = each units

  pub value_of_comes : (spell : Spelling) → Comes (value_of spell)
  value_of_comes spell h at (v ∷ []) rest = spelled_comes h at (spell h v) _ (text_comes h at rest)
  value_of_comes spell h at _ rest = claim.breaks h

  -- ---- StringBuilder

  rewrite_comes : (h : Here) → claim.At h → (operands : List Value) (r : ℕ) (units : List ℕ) → claim.May h.program (rewrite h operands r units)
  rewrite_comes h at operands r units = short_comes h at units _ (claim.passes h at)

  pub builder_append_comes : (spell : Spelling) → Comes (builder_append spell)
  builder_append_comes spell h at (Ref r ∷ v ∷ []) rest = spelled_comes h at (spell h v) _ (λ units. rewrite_comes h at (Ref r ∷ rest) r _)
  builder_append_comes spell h at _ rest = claim.breaks h

  pub builder_init_capacity_comes : Comes builder_init_capacity
  builder_init_capacity_comes h at (Ref r ∷ Int (pos n) ∷ []) rest = claim.passes h at
  builder_init_capacity_comes h at (Ref r ∷ Int (negsuc n) ∷ []) rest = negative_size claim h at
  builder_init_capacity_comes h at _ rest = claim.breaks h

  pub builder_set_length_comes : Comes builder_set_length
  builder_set_length_comes h at (Ref r ∷ Int (pos n) ∷ []) rest = chosen claim h.program _ _ _ (no_memory claim h at) (claim.passes h at)
  builder_set_length_comes h at (Ref r ∷ Int (negsuc n) ∷ []) rest = index_comes h at
  builder_set_length_comes h at _ rest = claim.breaks h

  pub builder_delete_comes : Comes builder_delete
  builder_delete_comes h at (Ref r ∷ Int i ∷ []) rest = chosen claim h.program _ _ _ (claim.passes h at) (index_comes h at)
  builder_delete_comes h at _ rest = claim.breaks h

  pub builder_reverse_comes : Comes builder_reverse
  builder_reverse_comes h at (Ref r ∷ []) rest = claim.passes h at
  builder_reverse_comes h at _ rest = claim.breaks h

  pub text_to_string_comes : Comes text_to_string
  text_to_string_comes h at (Ref r ∷ []) rest = text_comes h at rest _
  text_to_string_comes h at _ rest = claim.breaks h

  -- ---- Class and PrintStream

  pub answer_false_comes : Comes answer_false
  answer_false_comes h at values rest = claim.passes h at

  pub print_of_comes : (spell : Spelling) (line_end : List ℕ) → Comes (print_of spell line_end)
  print_of_comes spell line_end h at (Ref r ∷ v ∷ []) rest = spelled_comes h at (spell h v) _ (λ units. claim.writes h at)
  print_of_comes spell line_end h at _ rest = claim.breaks h

  pub print_line_end_comes : Comes print_line_end
  print_line_end_comes h at (Ref r ∷ []) rest = claim.writes h at
  print_line_end_comes h at _ rest = claim.breaks h

  pub stream_flush_comes : Comes stream_flush
  stream_flush_comes h at values rest = claim.passes h at
