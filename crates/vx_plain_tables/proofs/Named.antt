-- Classes that instructions name.
use Rattle.std.proofs.Common.{◌≡◌, ℕ, List, ap, sym}
use Rattle.std.specs.Prelude.{None, Some, option_map}
use Rattle.vx_java.specs.Checks.{if_there, with_class}
use Rattle.vx_java.specs.Ids.{as_class}
use Rattle.vx_java.specs.Machine.{Here, Outcome, unsupported}
use Rattle.vx_java.specs.Operation.{class_word}
use Rattle.vx_link.specs.ClassNames.{class_named}
use Rattle.vx_references.proofs.Numbers.{class_none, class_some}
use Rattle.vx_value.specs.declared.ids.ClassId.{ClassId}

pub absent : (h : Here) (name : List ℕ) (rest : ℕ → Outcome) → None ≡ option_map as_class (class_named h.program name) → unsupported h class_word name ≡ with_class h name rest
absent h name rest none = sym (ap (λ o. if_there h name o rest) (class_none (class_named h.program name) none))

pub present : (h : Here) (name : List ℕ) (rest : ℕ → Outcome) (class : ClassId) → Some class ≡ option_map as_class (class_named h.program name) → rest class.0 ≡ with_class h name rest
present h name rest class some = sym (ap (λ o. if_there h name o rest) (class_some (class_named h.program name) class some))
