-- Numbers of classes, methods and fields as the code has them.
use Rattle.std.specs.Prelude.{ℕ, ◌^◌, ◌≤◌}
use Rattle.vx_link.specs.ClassNames.{array_class}
use Rattle.vx_link.specs.declared.program.Program.{Program}
use Rattle.vx_value.specs.declared.ids.ClassId.{ClassId}
use Rattle.vx_value.specs.declared.ids.FieldId.{FieldId}
use Rattle.vx_value.specs.declared.ids.MethodId.{MethodId}

abbrev pub as_class : ℕ → ClassId
as_class c = record { 0 = c }

abbrev pub as_field : ℕ → FieldId
as_field f = record { 0 = f }

abbrev pub as_method : ℕ → MethodId
as_method m = record { 0 = m }

-- the numbers of all array classes, of up to 255 dimensions, and of the arrays over these, are below 2^32
abbrev pub HasClassNumbers : Program → Type 0
HasClassNumbers p = array_class p 257 0 ≤ 2 ^ 32
