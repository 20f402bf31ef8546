-- Values as they are spelled that are printed, appended or made a text, at one configuration (the class library of Java SE 7).
use Rattle.std.specs.Fmt.{signed_decimal}
use Rattle.std.specs.Int.{w32}
use Rattle.std.specs.Prelude.{ℕ, ℤ, List, None, Option, Some, [], ◌∷◌}
use Rattle.vx_java.specs.Texts.{bool_text, null_text}
use Rattle.vx_natives.specs.declared.behaviour.Spelling.{Spelling}
use Rattle.vx_natives.specs.declared.behaviour.Spelling.TheVariants as spelling
use Rattle.vx_value.specs.Arithmetic.{low_bits}
use Rattle.vx_value.specs.declared.slot.Slot.{Slot}
use Rattle.vx_value.specs.declared.slot.Slot.TheVariants.{Int, Long, Null, Ref, Top}
use Rattle.vx_strings.specs.declared.spelling.SpelledText.{SpelledText}

-- a text: that of a slot, which is none where the slot is no text, with units behind it
pub record Spelled : Type 0 where
  pub start : Slot
  pub units : List ℕ

abbrev pub spelled_of : SpelledText → Spelled
spelled_of text = record { start = text.start; units = text.units.items }

abbrev pub of_units : List ℕ → Spelled
of_units units = record { start = Top; units = units }

abbrev pub of_slot : Slot → Spelled
of_slot slot = record { start = slot; units = [] }

-- the unit of a char
abbrev pub char_units : ℤ → List ℕ
char_units n = low_bits w32 16 n ∷ []

-- a value, with what was read of it: the text of a string or of an array of chars; none for what is of another sort
abbrev pub spelled : Spelling → (value read : Slot) → Option Spelled
spelled spelling.Int (Int n) read = Some (of_units (signed_decimal n))
spelled spelling.Long (Long n) read = Some (of_units (signed_decimal n))
spelled spelling.Bool (Int n) read = Some (of_units (bool_text n))
spelled spelling.Char (Int n) read = Some (of_units (char_units n))
spelled spelling.Text (Ref r) read = Some (of_slot read)
spelled spelling.Text Null read = Some (of_units null_text)
spelled spelling.Chars (Ref r) read = Some (of_slot read)
spelled _ value read = None
