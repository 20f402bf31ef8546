-- Conditional values of one leaf.
use Rattle.std.specs.Prelude.{◌≡◌, List, [], ◌∷◌}
use Rattle.vx_cond.specs.declared.cond.Leaf.{Leaf}

-- the leaves are one, with this value
abbrev pub IsOnly : {T S I : Type 0} → T → List (Leaf T S I) → Type 0
IsOnly value [] = ⊥
IsOnly value (leaf ∷ []) = leaf.value ≡ value
IsOnly value (leaf ∷ other ∷ rest) = ⊥
