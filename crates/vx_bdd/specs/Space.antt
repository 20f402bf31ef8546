-- What a table knows as a space.
use Rattle.std.specs.Prelude.{◌≡◌, ℕ, true, List, [], ◌∷◌, Option, Some, None, is_some, count_by, suc}
use Rattle.vx_space.specs.Sets.{Sets}
use Rattle.vx_bdd.specs.declared.node.Node.{Node}
use Rattle.vx_bdd.specs.Diagram.{is_stored, reaches}

-- what the space knows whose table has these slots
abbrev pub sets_of : ℕ → List (Option Node) → ℕ → Sets ℕ
sets_of options slots base = record {
  options = options;
  never = 0;
  always = 1;
  is_known = is_stored slots;
  test = reaches slots options;
  counts = true;
  count = count_by is_some slots;
  base = base;
}

-- the ids of the slots that are taken, where the first slot has this id
abbrev pub stored_from : ℕ → List (Option Node) → List ℕ
stored_from id [] = []
stored_from id (None ∷ rest) = stored_from (suc id) rest
stored_from id (Some node ∷ rest) = id ∷ stored_from (suc id) rest

-- a new space counts its sets, and knows never and always alone
pub record IsNewSpace (options : ℕ) (sets : Sets ℕ) : Type 0 where
  pub options_are : sets.options ≡ options
  pub counts_its_sets : sets.counts ≡ true
  pub count_is : sets.count ≡ 2
  pub base_is : sets.base ≡ 2
