-- The class of the object that a slot names, where it names one.
use Rattle.std.specs.Prelude.{ℕ, Bool, false, Option, None, Some}
use Rattle.vx_value.specs.declared.ids.ClassId.{ClassId}

-- it passes a test
abbrev pub has_class : (ℕ → Bool) → Option ClassId → Bool
has_class test None = false
has_class test (Some class) = test class.0
