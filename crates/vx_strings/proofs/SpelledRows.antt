-- What values are spelled is what the ordinary machine spells the plain values.
use Rattle.std.proofs.Common.{◌≡◌, ℕ, ◌<◌, Bool, true, List, [], ◌∷◌, ◌++◌, refl, sym, ◌∙◌, ap, arith, pos}
use Rattle.std.proofs.lemmas.List.{append-nil}
use Rattle.std.specs.Fmt.{signed_decimal}
use Rattle.std.specs.Int.{w32}
use Rattle.std.specs.Prelude.{None, Option, Some, option_map}
use Rattle.vx_families.specs.Sorts.{narrowed_slot}
use Rattle.vx_heap.specs.Heap.{HeapView, globals_at, is_held, name_at, value_of}
use Rattle.vx_java.specs.Machine.{Here}
use Rattle.vx_java.specs.Texts.{bool_text, chars_of, null_text, text_of_object, units_in}
use Rattle.vx_link.specs.declared.program.Program.{Program}
use Rattle.vx_natives.proofs.Rights.{text_there, units_there}
use Rattle.vx_natives.specs.Arguments.{AreRead, IsRead}
use Rattle.vx_natives.specs.Behaviours.{spelled_by}
use Rattle.vx_natives.specs.Cells.{cell_of}
use Rattle.vx_natives.specs.Deeds.{text_with}
use Rattle.vx_natives.specs.Doing.{over}
use Rattle.vx_natives.specs.Readings.{IsCharsText}
use Rattle.vx_natives.specs.Takes.{spells_read}
use Rattle.vx_natives.specs.Texts.{units_of}
use Rattle.vx_natives.specs.declared.behaviour.Spelling.{Spelling}
use Rattle.vx_natives.specs.declared.behaviour.Spelling.TheVariants as spelling
use Rattle.vx_space.specs.Sets.{Sets}
use Rattle.vx_value.specs.Arithmetic.{low_bits, narrow_of, natural}
use Rattle.vx_value.specs.declared.operation.Narrow.{Narrow}
use Rattle.vx_value.specs.declared.operation.Narrow.TheVariants.{Byte, Char, Short, Bool as BoolOf}
use Rattle.vx_value.specs.declared.slot.Slot.{Slot}
use Rattle.vx_value.specs.declared.slot.Slot.TheVariants.{Int, Long, Null, Ref, Text, Top}
use Rattle.vx_strings.specs.Spelled.{Spelled, char_units, of_slot, of_units, spelled}

-- ---- chars

-- a char is a number of sixteen bits
abbrev pub IsChar : Spelling → Slot → Type 0
IsChar spelling.Char (Int n) = natural n ≡ low_bits w32 16 n
IsChar _ value = Unit {0}

-- where it was read as one
char_read : (slot value : Slot) → value ≡ narrowed_slot (Some Char) slot → IsChar spelling.Char value
char_read (Int m) (Int n) e =
    let same : n ≡ narrow_of Char m = cc in
    ap natural same ∙ low_low (low_bits w32 16 m) (omega arith) ∙ ap (low_bits w32 16) (sym same)
  where
    low_low : (k : ℕ) → k < 65536 → k ≡ low_bits w32 16 (pos k)
    low_low k l = omega (arith, l)
char_read Top (Int n) e = cc e
char_read (Long m) (Int n) e = cc e
char_read Null (Int n) e = cc e
char_read (Ref m) (Int n) e = cc e
char_read (Text m) (Int n) e = cc e
char_read slot _ e = tt

-- a value behind another one, or alone, was read as its spelling wants it
pub char_alone : (s : Spelling) (to : List (Option Narrow)) (value : Slot) → spells_read s to ≡ true → AreRead to (value ∷ []) → IsChar s value
char_alone s [] value w r = absurd r
char_alone s (t ∷ []) value w r = by s t value w r.0
  where
    by : (s : Spelling) (t : Option Narrow) (value : Slot) → spells_read s (t ∷ []) ≡ true → IsRead t value → IsChar s value
    by spelling.Char (Some Char) value w r = char_read r.slot value r.is
    by spelling.Char (Some Byte) value w r = cc w
    by spelling.Char (Some Short) value w r = cc w
    by spelling.Char (Some BoolOf) value w r = cc w
    by spelling.Char None value w r = cc w
    by _ t value w r = tt
char_alone s (t ∷ u ∷ to) value w r = absurd r.1

pub char_behind : (s : Spelling) (to : List (Option Narrow)) (object value : Slot) → spells_read s to ≡ true → AreRead to (object ∷ value ∷ []) → IsChar s value
char_behind s [] object value w r = absurd r
char_behind s (t ∷ to) object value w r = char_alone s to value (later s t to w r.1) r.1
  where
    later : (s : Spelling) (t : Option Narrow) (to : List (Option Narrow)) → spells_read s (t ∷ to) ≡ true → AreRead to (value ∷ []) → spells_read s to ≡ true
    later spelling.Char None (u ∷ to) w r = w
    later spelling.Char (Some Char) (u ∷ to) w r = w
    later spelling.Char (Some Byte) (u ∷ to) w r = w
    later spelling.Char (Some Short) (u ∷ to) w r = w
    later spelling.Char (Some BoolOf) (u ∷ to) w r = w
    later spelling.Char t [] w r = absurd r
    later _ t to w r = refl

-- ---- spellings

module _ {S I : Type 0} (p : Program) (sets : Sets I) (heap : HeapView S I) (c : List Bool) (h : Here) where
  -- what was read of a value that is spelled
  abbrev pub IsReadOf : Spelling → (value read : Slot) → Type 0
  IsReadOf spelling.Text value read = value_of sets heap c read ≡ cell_of sets heap c value 0
  IsReadOf spelling.Chars value read = IsCharsText sets heap c value read
  IsReadOf _ value read = read ≡ Top

  abbrev pub units_by : Option Spelled → Option (List ℕ)
  units_by o = option_map (λ s. text_with heap.texts s.start s.units) o

  text_of_read : (r : ℕ) (read : Slot) → value_of sets heap c read ≡ cell_of sets heap c (Ref r) 0 → units_of heap.texts read ++ [] ≡ text_of_object (over p h (globals_at sets heap c)) (name_at sets heap.objects c r)
  text_of_read r read e = append-nil (units_of heap.texts read) ∙ sym (text_there sets heap c p h r read e)

  chars_of_read : (r : ℕ) (read : Slot) → IsCharsText sets heap c (Ref r) read → units_of heap.texts read ++ [] ≡ chars_of (over p h (globals_at sets heap c)) (name_at sets heap.objects c r)
  chars_of_read r read e = append-nil (units_of heap.texts read) ∙ sym (units_there sets heap c read) ∙ ap units_in e

  pub spelled_there : (s : Spelling) (value read : Slot) → IsChar s value → IsReadOf s value read → units_by (spelled s value read) ≡ spelled_by s (over p h (globals_at sets heap c)) (value_of sets heap c value)
  spelled_there spelling.Int (Int n) read b e = refl
  spelled_there spelling.Int _ read b e = refl
  spelled_there spelling.Long (Long n) read b e = refl
  spelled_there spelling.Long _ read b e = refl
  spelled_there spelling.Bool (Int n) read b e = refl
  spelled_there spelling.Bool _ read b e = refl
  spelled_there spelling.Char (Int n) read b e = ap (λ k. Some (k ∷ [])) (sym b)
  spelled_there spelling.Char _ read b e = refl
  spelled_there spelling.Text (Ref r) read b e = ap Some (text_of_read r read e)
  spelled_there spelling.Text _ read b e = refl
  spelled_there spelling.Chars (Ref r) read b e = ap Some (chars_of_read r read e)
  spelled_there spelling.Chars _ read b e = refl

-- ---- what a text starts with

module _ {S I : Type 0} (sets : Sets I) (heap : HeapView S I) (c : List Bool) where
  abbrev start_of : Option Spelled → Slot
  start_of None = Top
  start_of (Some s) = s.start

  begins_with : (s x : Spelled) → is_held sets heap c s.start ≡ true → Some s ≡ Some x → is_held sets heap c x.start ≡ true
  begins_with s x t e = ap (is_held sets heap c) (sym (ap start_of e)) ∙ t

  -- it starts with what is there
  pub start_held : (s : Spelling) (value read : Slot) (x : Spelled) → is_held sets heap c read ≡ true → spelled s value read ≡ Some x → is_held sets heap c x.start ≡ true
  start_held spelling.Int (Int n) read x t e = begins_with (of_units (signed_decimal n)) x refl e
  start_held spelling.Int _ read x t e = cc e
  start_held spelling.Long (Long n) read x t e = begins_with (of_units (signed_decimal n)) x refl e
  start_held spelling.Long _ read x t e = cc e
  start_held spelling.Bool (Int n) read x t e = begins_with (of_units (bool_text n)) x refl e
  start_held spelling.Bool _ read x t e = cc e
  start_held spelling.Char (Int n) read x t e = begins_with (of_units (char_units n)) x refl e
  start_held spelling.Char _ read x t e = cc e
  start_held spelling.Text (Ref r) read x t e = begins_with (of_slot read) x t e
  start_held spelling.Text Null read x t e = begins_with (of_units null_text) x refl e
  start_held spelling.Text _ read x t e = cc e
  start_held spelling.Chars (Ref r) read x t e = begins_with (of_slot read) x t e
  start_held spelling.Chars _ read x t e = cc e
