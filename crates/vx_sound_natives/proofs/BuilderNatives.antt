-- The native methods of StringBuilder.
use Rattle.std.proofs.Common.{List, None, Option, Some, [], drop, length, negsuc, pos, refl, replicate, suc, take, ℕ, ℤ, ◌++◌, ◌-◌, ◌∷◌}
use Prim.Native.String.{String}
use Rattle.std.specs.Prelude.{nat_lt}
use Rattle.vx_java.specs.Checks.{is_within}
use Rattle.vx_java.specs.Machine.{Here, Int, Ref, Text, Value, go, length_bound, raise}
use Rattle.vx_java.specs.Texts.{bad_index, builder_append, builder_delete, builder_init_capacity, builder_reverse, builder_set_length, char_text, rewrite, spell_bool, spell_char, spell_int, spell_long, spell_string, string_init, string_init_string, text_char_at, text_length, text_of_object, text_to_string, with_text}
use Rattle.vx_sound.proofs.Sites.{AtSite, Typed}
use Rattle.vx_sound.specs.Typed.{Typings}
use Rattle.vx_sound_natives.proofs.Cells.{cell_written, goes_next, holder, next_itself, object_next}
use Rattle.vx_sound_natives.proofs.Known.{Known, either_typed, knows}
use Rattle.vx_sound_natives.proofs.Results.{Leads, int_back, no_index, no_reference, raised_back, short_back, text_back}
use Rattle.vx_sound_natives.proofs.TextNatives.{char_back, text}
use Rattle.vx_sound_natives.proofs.ValueKinds.{IsAt, Kind, a_long, an_int, an_object, core_type}
use Rattle.vx_types.specs.declared.types.VerType.TheVariants as is
use Rattle.vx_value.specs.Arithmetic.{natural}

module _ (typings : Typings) (h : Here) (site : AtSite typings h) (rest : List Value) where
  abbrev pub OnBuilder : ℕ → Type 0
  OnBuilder r = IsAt h.program h.state.heap (core_type h.program "java/lang/StringBuilder") r

  pub builder_set : Leads typings h rest None → (r : ℕ) → OnBuilder r → (units : List ℕ) → Typed typings h (go (with_text h r units) rest)
  builder_set on r at units =
      goes_next typings h site rest on _
      (cell_written h.program site.sound h.state.heap h.state.heap (next_itself h.program site.sound h.state.heap site.state.heap) "java/lang/StringBuilder"
      (holder h.program site.sound "java/lang/StringBuilder" refl refl) 0 is.Top site.sound.objects.builder r at (Text units) refl)

  -- with the builder handed back
  pub builder_back : Leads typings h rest (Some (an_object "java/lang/StringBuilder")) → (r : ℕ) → OnBuilder r → (units : List ℕ) → Typed typings h (go (with_text h r units) (Ref r ∷ rest))
  builder_back on r at units =
      object_next typings h site rest "java/lang/StringBuilder" on r at _
      (cell_written h.program site.sound h.state.heap h.state.heap (next_itself h.program site.sound h.state.heap site.state.heap) "java/lang/StringBuilder"
      (holder h.program site.sound "java/lang/StringBuilder" refl refl) 0 is.Top site.sound.objects.builder r at (Text units) refl)

  pub appended : Leads typings h rest (Some (an_object "java/lang/StringBuilder")) → (r : ℕ) → OnBuilder r → (units : List ℕ) → Typed typings h (rewrite h (Ref r ∷ rest) r units)
  appended on r at units = short_back typings h site rest units (go (with_text h r units) (Ref r ∷ rest)) (builder_back on r at units)

  pub capacity_back : Leads typings h rest None → (r : ℕ) → OnBuilder r → (n : ℤ) → Typed typings h (builder_init_capacity h (Ref r ∷ Int n ∷ []) rest)
  capacity_back on r at (pos n) = builder_set on r at []
  capacity_back on r at (negsuc n) = raised_back typings h site rest "java/lang/NegativeArraySizeException" refl

  pub length_set : Leads typings h rest None → (r : ℕ) → OnBuilder r → (n : ℤ) → Typed typings h (builder_set_length h (Ref r ∷ Int n ∷ []) rest)
  length_set on r at (pos n) =
      either_typed typings h (nat_lt length_bound n) (raise h "java/lang/OutOfMemoryError")
      (go (with_text h r (take n (text_of_object h r) ++ replicate (n - length (text_of_object h r)) 0)) rest)
      (raised_back typings h site rest "java/lang/OutOfMemoryError" refl) (builder_set on r at _)
  length_set on r at (negsuc n) = no_index typings h site rest

  pub char_deleted : Leads typings h rest (Some (an_object "java/lang/StringBuilder")) → (r : ℕ) → OnBuilder r → (i : ℤ) → Typed typings h (builder_delete h (Ref r ∷ Int i ∷ []) rest)
  char_deleted on r at i =
      either_typed typings h (is_within i (length (text_of_object h r)))
      (go (with_text h r (take (natural i) (text_of_object h r) ++ drop (suc (natural i)) (text_of_object h r))) (Ref r ∷ rest)) (bad_index h)
      (builder_back on r at _) (no_index typings h site rest)

-- ---- the table

abbrev builder : String
builder = "java/lang/StringBuilder"

abbrev itself : Option Kind
itself = Some (an_object "java/lang/StringBuilder")

unfoldable pub builder_natives : List Known
builder_natives =
    knows string_init (Some builder) [] None (λ typings h site rest on r at. builder_set typings h site rest on r at [])
    ∷ knows builder_init_capacity (Some builder) (an_int ∷ []) None (λ typings h site rest on r at n. capacity_back typings h site rest on r at n)
    ∷ knows string_init_string (Some builder) (text ∷ []) None (λ typings h site rest on r at. (no_reference typings h site rest, λ s there. builder_set typings h site rest on r at _))
    ∷ knows (builder_append spell_int) (Some builder) (an_int ∷ []) itself (λ typings h site rest on r at n. appended typings h site rest on r at _)
    ∷ knows (builder_append spell_long) (Some builder) (a_long ∷ []) itself (λ typings h site rest on r at n. appended typings h site rest on r at _)
    ∷ knows (builder_append spell_bool) (Some builder) (an_int ∷ []) itself (λ typings h site rest on r at n. appended typings h site rest on r at _)
    ∷ knows (builder_append spell_char) (Some builder) (an_int ∷ []) itself (λ typings h site rest on r at n. appended typings h site rest on r at (text_of_object h r ++ char_text n))
    ∷ knows (builder_append spell_string) (Some builder) (text ∷ []) itself
    (λ typings h site rest on r at. (appended typings h site rest on r at _, λ s there. appended typings h site rest on r at (text_of_object h r ++ text_of_object h s)))
    ∷ knows text_length (Some builder) [] (Some an_int) (λ typings h site rest on r at. int_back typings h site rest on _)
    ∷ knows text_char_at (Some builder) (an_int ∷ []) (Some an_int) (λ typings h site rest on r at i. char_back typings h site rest on r i)
    ∷ knows builder_set_length (Some builder) (an_int ∷ []) None (λ typings h site rest on r at n. length_set typings h site rest on r at n)
    ∷ knows builder_delete (Some builder) (an_int ∷ []) itself (λ typings h site rest on r at i. char_deleted typings h site rest on r at i)
    ∷ knows builder_reverse (Some builder) [] itself (λ typings h site rest on r at. builder_back typings h site rest on r at _)
    ∷ knows text_to_string (Some builder) [] (Some text) (λ typings h site rest on r at. text_back typings h site rest on _)
    ∷ []
