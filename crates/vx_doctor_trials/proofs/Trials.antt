-- What the trials need of a linked program.
use Rattle.std.proofs.Common.{◌≡◌, ◌∙◌, ap, refl, sym}
use Rattle.std.specs.List.{list_all}
use Rattle.std.specs.Prelude.{Bool, List, None, Option, Some, true}
use Rattle.vx_class.specs.declared.class_file.Code.{Code}
use Rattle.vx_families.specs.Bounds.{IsBounded}
use Rattle.vx_families.specs.Bounds as bounds
use Rattle.vx_link.specs.declared.program.LinkedMethod.{LinkedMethod}
use Rattle.vx_link.specs.declared.program.Program.{Program}
use Rattle.vx_verify.specs.Verdict.{has_short_code}

same_test : (code : Option Code) → bounds.has_short_code code ≡ has_short_code code
same_test None = refl
same_test (Some code) = refl

same_tests : (methods : List LinkedMethod) → list_all (λ m. bounds.has_short_code m.code) methods ≡ list_all (λ m. has_short_code m.code) methods
same_tests methods = ap (λ (f : LinkedMethod → Bool). list_all f methods) (λ i m. same_test m.code i)

-- its codes are as short as a listing asks
pub short_codes : (p : Program) → IsBounded p → list_all (λ m. has_short_code m.code) p.methods ≡ true
short_codes p b = sym (same_tests p.methods) ∙ b.codes
