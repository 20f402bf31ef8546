-- The types that names say, by the class that is found.
use Rattle.std.proofs.Common.{List, None, Option, Some, ap, sym, ℕ, ◌≡◌}
use Rattle.std.specs.Prelude.{option_map}
use Rattle.vx_java.specs.Ids.{as_class}
use Rattle.vx_link.specs.ClassNames.{class_named, class_of_name}
use Rattle.vx_link.specs.declared.program.Program.{Program}
use Rattle.vx_references.proofs.Numbers.{class_none, class_some}
use Rattle.vx_types.specs.Rows.{if_there, with_class}
use Rattle.vx_types.specs.Types.{element_found, element_named, element_of_class}
use Rattle.vx_types.specs.declared.types.ElementType.TheVariants.{Missing}
use Rattle.vx_types.specs.declared.types.Row.{Row}
use Rattle.vx_types.specs.declared.types.Row.TheVariants.{Ends}
use Rattle.vx_value.specs.declared.ids.ClassId.{ClassId}

pub element_there : (p : Program) (name : List ℕ) (class : ClassId) → Some class ≡ option_map as_class (class_of_name p name) → element_of_class p class.0 ≡ element_named p name
element_there p name class e = sym (ap (element_found p name) (class_some (class_of_name p name) class e))

pub element_missing : (p : Program) (name : List ℕ) → None ≡ option_map as_class (class_of_name p name) → Missing name ≡ element_named p name
element_missing p name e = sym (ap (element_found p name) (class_none (class_of_name p name) e))

pub class_there : (p : Program) (name : List ℕ) (rest : ℕ → Row) (class : ClassId) → Some class ≡ option_map as_class (class_named p name) → rest class.0 ≡ with_class p name rest
class_there p name rest class e = sym (ap (λ (o : Option ℕ). if_there o rest) (class_some (class_named p name) class e))

pub class_missing : (p : Program) (name : List ℕ) (rest : ℕ → Row) → None ≡ option_map as_class (class_named p name) → Ends ≡ with_class p name rest
class_missing p name rest e = sym (ap (λ (o : Option ℕ). if_there o rest) (class_none (class_named p name) e))
