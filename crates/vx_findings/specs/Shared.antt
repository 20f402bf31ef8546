-- Values with the configurations that have them, as leaves: ascending values with known, nonempty and disjoint conditions.
use Rattle.std.specs.Prelude.{List, map}
use Rattle.vx_cond.specs.declared.cond.Leaf.{Leaf}
use Rattle.vx_findings.specs.declared.shared.Shared.{Shared}

abbrev pub leaf_of : {V S I : Type 0} → Shared V S I → Leaf V S I
leaf_of shared = record { value = shared.value; condition = shared.condition }

abbrev pub leaves_of : {V S I : Type 0} → List (Shared V S I) → List (Leaf V S I)
leaves_of list = map leaf_of list
