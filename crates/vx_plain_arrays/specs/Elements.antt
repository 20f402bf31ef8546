-- Elements of arrays and values that are stored in them.
use Rattle.std.specs.Prelude.{None, Option, Some, if◌then◌else◌, pos, ℕ, ℤ, ◌==◌, ◌||◌}
use Rattle.vx_java.specs.declared.operation.Element.{Element}
use Rattle.vx_java.specs.declared.operation.Element.TheVariants.{Bytes, Chars, Shorts}
use Rattle.vx_plain.specs.declared.value.Value.{Value}
use Rattle.vx_plain.specs.declared.value.Value.TheVariants.{Int, Long, Top}
use Rattle.vx_value.specs.Arithmetic.{narrow_of}
use Rattle.vx_value.specs.declared.operation.Narrow.TheVariants.{Byte, Char, Short}

-- the int that a value is, if it is one
abbrev pub int_in : Value → Option ℤ
int_in (Int n) = Some n
int_in v = None

-- what a primitive element begins with
abbrev pub default_of_element : ℕ → Value
default_of_element element = if (element == 3) || (element == 4) then Top else (if element == 6 then Long (pos 0) else Int (pos 0))

-- what a store keeps of a value
abbrev pub kept : Element → Value → Value
kept Bytes (Int n) = Int (narrow_of Byte n)
kept Chars (Int n) = Int (narrow_of Char n)
kept Shorts (Int n) = Int (narrow_of Short n)
kept element v = v
