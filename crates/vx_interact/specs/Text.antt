-- The text of interactions: a head, a line for each entry, and a last line.
use Rattle.std.specs.Prelude.{◌≡◌, ℕ, Bool, true, false, List, [], ◌∷◌, ◌++◌, length, codes, decimal}
use Rattle.std.specs.List.{flat_map}
use Rattle.vx_list.specs.Places.{item_or}
use Rattle.vx_interact.specs.declared.interaction.Interaction.{Interaction}
use Rattle.vx_interact.specs.Interactions.{AreInteractions}
use Rattle.vx_report.specs.declared.report.Report.{Report}

abbrev pub kind_word : Bool → List ℕ
kind_word true = codes "piece"
kind_word false = codes "end"

-- a comma and a name, for each option
abbrev pub more_names : List (List ℕ) → List ℕ → List ℕ
more_names names options = flat_map (λ i. 44 ∷ item_or names i []) options

-- the names of some options, joined by commas; a dash for none
abbrev pub joined_names : List (List ℕ) → List ℕ → List ℕ
joined_names names [] = 45 ∷ []
joined_names names (first ∷ rest) = item_or names first [] ++ more_names names rest

-- the kind, the number, how many options, and their names
abbrev pub entry_text : List (List ℕ) → Interaction → List ℕ
entry_text names entry = kind_word entry.piece ++ codes " " ++ decimal entry.index ++ codes " " ++ decimal (length entry.options) ++ codes " " ++ joined_names names entry.options ++ codes "\n"

unfoldable pub interactions_text : List (List ℕ) → List Interaction → List ℕ
interactions_text names entries = codes "varexj interact 1\n" ++ flat_map (entry_text names) entries ++ codes "done\n"

-- the text is that of the interactions of a report
pub record IsInteractionsText (report : Report) (text : List ℕ) : Type 0 where
  pub entries : List Interaction
  pub are : AreInteractions report entries
  pub spelled : text ≡ interactions_text report.options entries
