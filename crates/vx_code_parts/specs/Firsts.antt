-- The places of the first labels of names.
use Rattle.std.specs.Prelude.{◌≡◌, ℕ, List, Option, Vec}
use Rattle.std.specs.Global.{Global}
use Rattle.std.specs.List.{position_from}
use Rattle.std.specs.Str.{bytes_eq}
use Rattle.indexmap.specs.IndexMap.{IndexMap, get_by}
use Rattle.vx_code_parts.specs.declared.label_table.Label.{Label}

-- the place that stands with a name
abbrev pub first_of : {S : Type 0} → IndexMap (Vec ℕ Global) ℕ S → List ℕ → Option ℕ
first_of firsts name = get_by (λ key. bytes_eq name key.items) firsts

-- the place of the first label of a name
abbrev pub place_of : List Label → List ℕ → Option ℕ
place_of labels name = position_from (λ (l : Label). bytes_eq l.name name) 0 labels

-- with each name stands the place of its first label
pub record AreFirst {S : Type 0} (labels : List Label) (firsts : IndexMap (Vec ℕ Global) ℕ S) : Type 0 where
  pub places : (name : List ℕ) → first_of firsts name ≡ place_of labels name
