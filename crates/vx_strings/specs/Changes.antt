-- What native methods do with texts of strings and builders, at one configuration (the class library of Java SE 7).
use Rattle.std.specs.Prelude.{ℕ, ℤ, Bool, false, true, List, None, Option, Some, [], drop, if◌then◌else◌, length, nat_le, nat_lt, negsuc, pos, replicate, suc, take, ◌&&◌, ◌++◌, ◌-◌}
use Rattle.vx_java.specs.Checks.{is_within}
use Rattle.vx_java.specs.Machine.{length_bound}
use Rattle.vx_java.specs.Texts.{reversed_onto}
use Rattle.vx_natives.specs.Deeds.{Deed, changes_text, gives_chars, raises, sets_text, text_with}
use Rattle.vx_natives.specs.Texts.{units_of}
use Rattle.vx_natives.specs.declared.behaviour.BuilderChange.{BuilderChange}
use Rattle.vx_natives.specs.declared.behaviour.BuilderChange.TheVariants as change
use Rattle.vx_natives.specs.declared.behaviour.Initialiser.{Initialiser}
use Rattle.vx_natives.specs.declared.behaviour.Initialiser.TheVariants as init
use Rattle.vx_natives.specs.declared.behaviour.Maker.{Maker}
use Rattle.vx_natives.specs.declared.behaviour.Maker.TheVariants as maker
use Rattle.vx_natives.specs.declared.call.Call.{Call}
use Rattle.vx_natives.specs.declared.call.Call.TheVariants as given
use Rattle.vx_natives.specs.declared.effect.Exception.TheVariants.{BadIndex, Memory, NegativeSize, Null as NullRaised}
use Rattle.vx_value.specs.Arithmetic.{natural}
use Rattle.vx_value.specs.declared.slot.Slot.{Slot}
use Rattle.vx_value.specs.declared.slot.Slot.TheVariants.{Int, Null, Ref, Top}
use Rattle.vx_strings.specs.Lengths.{gives_short}
use Rattle.vx_strings.specs.Questions.{refused}
use Rattle.vx_strings.specs.Spelled.{Spelled, of_slot, of_units, spelled}

-- ---- strings and builders that begin

-- an initialiser of strings or builders
abbrev pub is_of_text : Initialiser → Bool
is_of_text init.Enum = false
is_of_text init.Throwable = false
is_of_text _ = true

abbrev pub initialised : Initialiser → Call → Deed
initialised init.Empty (given.One (Ref r)) = sets_text r Top []
initialised init.OfText (given.Three (Ref r) (Ref s) t) = sets_text r t []
initialised init.OfText (given.Three (Ref r) Null t) = raises NullRaised
initialised init.OfChars (given.Three (Ref r) (Ref a) t) = sets_text r t []
initialised init.OfChars (given.Three (Ref r) Null t) = raises NullRaised
initialised init.OfCapacity (given.Two (Ref r) (Int (pos n))) = sets_text r Top []
initialised init.OfCapacity (given.Two (Ref r) (Int (negsuc n))) = raises NegativeSize
initialised _ call = refused

-- ---- builders

-- the units of a text that is spelled
abbrev pub tail_of : (texts : List (List ℕ)) → Spelled → List ℕ
tail_of texts s = text_with texts s.start s.units

-- units behind the text of a builder, which may get too long
abbrev pub with_tail : (texts : List (List ℕ)) → (object : ℕ) → (start : Slot) → (tail : List ℕ) → Deed
with_tail texts r t tail =
    if nat_lt length_bound (length (units_of texts t ++ tail)) then raises Memory else changes_text r t tail

abbrev pub appended : (texts : List (List ℕ)) → (object : ℕ) → (start : Slot) → Option Spelled → Deed
appended texts r t None = raises NullRaised
appended texts r t (Some s) = with_tail texts r t (tail_of texts s)

abbrev pub with_length : (object : ℕ) → List ℕ → ℤ → Deed
with_length r units (negsuc n) = raises BadIndex
with_length r units (pos n) = if nat_lt length_bound n then raises Memory else sets_text r Top (take n units ++ replicate (n - length units) 0)

abbrev pub without : (object : ℕ) → List ℕ → ℤ → Deed
without r units i = if is_within i (length units) then changes_text r Top (take (natural i) units ++ drop (suc (natural i)) units) else raises BadIndex

abbrev pub changed : (texts : List (List ℕ)) → BuilderChange → Call → Deed
changed texts (change.Append s) (given.Three (Ref r) value t) = appended texts r t (spelled s value Top)
changed texts (change.Append s) (given.Four (Ref r) value t read) = appended texts r t (spelled s value read)
changed texts change.SetLength (given.Three (Ref r) (Int n) t) = with_length r (units_of texts t) n
changed texts change.Delete (given.Three (Ref r) (Int i) t) = without r (units_of texts t) i
changed texts change.Reverse (given.Two (Ref r) t) = changes_text r Top (reversed_onto [] (units_of texts t))
changed texts _ call = refused

-- ---- new strings and arrays

-- what makes these
abbrev pub is_text_maker : Maker → Bool
is_text_maker maker.LineSeparator = false
is_text_maker maker.IntegerOf = false
is_text_maker maker.SpellInt = false
is_text_maker maker.SpellInteger = false
is_text_maker maker.SpellBoolean = false
is_text_maker maker.ClassName = false
is_text_maker _ = true

-- the units from a place up to another
abbrev pub part_of : (texts : List (List ℕ)) → List ℕ → (begin end : ℤ) → Deed
part_of texts units (pos begin) (pos end) =
    if nat_le begin end && nat_le end (length units) then gives_short texts (of_units (take (end - begin) (drop begin units))) else raises BadIndex
part_of texts units _ _ = raises BadIndex

abbrev pub text_made : (texts : List (List ℕ)) → Option Spelled → Deed
text_made texts None = raises NullRaised
text_made texts (Some s) = gives_short texts s

abbrev pub made : (texts : List (List ℕ)) → Maker → Call → Deed
made texts maker.Concat (given.Four (Ref r) (Ref s) t u) = gives_short texts (record { start = t; units = units_of texts u })
made texts maker.Concat (given.Four (Ref r) Null t u) = raises NullRaised
made texts maker.Substring (given.Three (Ref r) (Int begin) t) = part_of texts (units_of texts t) begin (pos (length (units_of texts t)))
made texts maker.Substring (given.Four (Ref r) (Int begin) (Int end) t) = part_of texts (units_of texts t) begin end
made texts maker.ToChars (given.Two (Ref r) t) = gives_chars (units_of texts t)
made texts (maker.TextOf s) (given.One value) = text_made texts (spelled s value Top)
made texts (maker.TextOf s) (given.Two value read) = text_made texts (spelled s value read)
made texts maker.ToText (given.Two (Ref r) t) = gives_short texts (of_slot t)
made texts _ call = refused
