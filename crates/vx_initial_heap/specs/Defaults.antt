-- The type of a field behind the [ of its descriptor, read from what is left of the text.
use Rattle.std.specs.Prelude.{Bool, List, None, Option, Some, [], false, if◌then◌else◌, length, position, take, true, ℕ, ◌&&◌, ◌+◌, ◌==◌, ◌∷◌}
use Rattle.vx_desc.specs.Descriptors.{base_of, only_if}
use Rattle.vx_desc.specs.Names.{is_class_name}
use Rattle.vx_desc.specs.declared.java_type.Base.{Base}
use Rattle.vx_desc.specs.declared.java_type.Base.TheVariants.{Class}
use Rattle.vx_java.specs.FirstObjects.{default_of_base}
use Rattle.vx_java.specs.Machine.{Null, Text, Value}

-- the name of a class, and a ; as the last byte
abbrev pub ends_at : List ℕ → Option ℕ → Bool
ends_at text None = false
ends_at text (Some len) = is_class_name (take len text) && len + 1 == length text

abbrev pub is_class_end : List ℕ → Bool
is_class_end text = ends_at text (position (λ b. b == 59) text)

-- the base of a type that is the whole text
abbrev pub base_in : List ℕ → Option Base
base_in [] = None
base_in (b ∷ rest) = if b == 76 then only_if (is_class_end rest) Class else (if length rest == 0 then base_of b else None)

-- the value with which a field of so many dimensions over a base begins
abbrev pub default_over : ℕ → Option Base → Value
default_over dimensions None = Text []
default_over dimensions (Some base) = elim (dimensions == 0) [ true ↦ default_of_base base | false ↦ Null ]
