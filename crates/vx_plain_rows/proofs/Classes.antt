-- Classes that casts name.
use Rattle.std.proofs.Common.{◌≡◌, ℕ, List, ap, sym, refl, ◌∙◌}
use Rattle.std.specs.Prelude.{None, Option, Some, option_map}
use Rattle.vx_java.specs.Ids.{as_class}
use Rattle.vx_link.specs.ClassNames.{class_named}
use Rattle.vx_link.specs.declared.program.Program.{Program}
use Rattle.vx_value.specs.declared.ids.ClassId.{ClassId}

numbers_back : (o : Option ℕ) (named : Option ClassId) → named ≡ option_map as_class o → option_map (λ c. c.0) named ≡ o
numbers_back None named e = rw e refl
numbers_back (Some n) named e = rw e refl

pub number_named : (p : Program) (name told : List ℕ) (named : Option ClassId) → told ≡ name → named ≡ option_map as_class (class_named p name) → option_map (λ c. c.0) named ≡ class_named p told
number_named p name told named told_is is = numbers_back (class_named p told) named (is ∙ ap (λ n. option_map as_class (class_named p n)) (sym told_is))
