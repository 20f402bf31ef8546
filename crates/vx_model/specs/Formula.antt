-- The rules of a feature model, as trees.
use Rattle.std.specs.Prelude.{ℕ, ◌+◌, max, List, [], ◌∷◌}

mutual
  pub data Formula : Type 0 where
    Always : Formula
    Never : Formula
    Named : ℕ → Formula
    Not : Formula → Formula
    And : Formulas → Formula
    Or : Formulas → Formula
    Implies : Formula → Formula → Formula

  pub data Formulas : Type 0 where
    none : Formulas
    more : Formula → Formulas → Formulas

-- the formulas of a list, in order
abbrev pub formulas : List Formula → Formulas
formulas [] = none
formulas (f ∷ fs) = more f (formulas fs)

-- how deep a formula is nested
abbrev mutual
  pub formula_size : Formula → ℕ
  formula_size Always = 0
  formula_size Never = 0
  formula_size (Named n) = 0
  formula_size (Not f) = formula_size f + 1
  formula_size (And fs) = all_sizes fs
  formula_size (Or fs) = all_sizes fs
  formula_size (Implies f g) = max (formula_size f + 1) (formula_size g + 1)

  pub all_sizes : Formulas → ℕ
  all_sizes none = 0
  all_sizes (more f fs) = max (formula_size f + 1) (all_sizes fs)
