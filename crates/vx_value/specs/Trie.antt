-- A trie of texts. Node 0 is the root, where the empty text ends. Each other node follows an earlier one by one unit.
use Rattle.std.specs.Prelude.{◌≡◌, ℕ, suc, ◌<◌, List, [], ◌∷◌, ◌++◌, length, fold}
use Rattle.vx_list.specs.Places.{item_or}
use Rattle.vx_value.specs.Texts.{text_at}

-- the text that a step from a node ends
abbrev pub stepped : List (List ℕ) → ℕ × ℕ → List ℕ
stepped paths step = text_at paths step.0 ++ step.1 ∷ []

-- the paths with that of one more step behind them
abbrev pub with_step : List (List ℕ) → ℕ × ℕ → List (List ℕ)
with_step paths step = paths ++ stepped paths step ∷ []

-- the text that ends at each node, the root first
unfoldable pub paths : List (ℕ × ℕ) → List (List ℕ)
paths steps = fold with_step ([] ∷ []) steps

-- the step of a place follows a node, and its text is that of the node with the unit behind it
abbrev pub IsStep : List (List ℕ) → ℕ → ℕ × ℕ → Type 0
IsStep paths place step = (step.0 < length paths) × (text_at paths (suc place) ≡ stepped paths step)

abbrev pub AreSteps : List (ℕ × ℕ) → Type 0
AreSteps steps = (place : ℕ) → place < length steps → IsStep (paths steps) place (item_or steps place (0, 0))
