-- On which options the pieces and the ends of a report depend.
use Rattle.std.specs.Prelude.{◌≡◌, ℕ, suc, Bool, true, false, List, [], ◌∷◌, ◌++◌, map, length}
use Rattle.vx_bdd_tools.specs.declared.node.Node.{Node}
use Rattle.vx_bdd_tools.specs.Nodes.{holds}
use Rattle.vx_bdd_tools.specs.Support.{IsSupport}
use Rattle.vx_report.specs.declared.report.Report.{Report}
use Rattle.vx_interact.specs.declared.interaction.Interaction.{Interaction}

-- an entry of a node: its kind, its number among its kind, and just the options on which the node's set depends
pub record IsEntry (nodes : List Node) (piece : Bool) (index node : ℕ) (entry : Interaction) : Type 0 where
  pub kind : entry.piece ≡ piece
  pub number : entry.index ≡ index
  pub options : IsSupport (holds nodes node) entry.options

-- entries of one kind beside their nodes, numbered from a number on
abbrev pub AreEntries : List Node → Bool → ℕ → List ℕ → List Interaction → Type 0
AreEntries nodes piece index [] [] = Unit {0}
AreEntries nodes piece index (node ∷ rest) (entry ∷ entries) = IsEntry nodes piece index node entry × AreEntries nodes piece (suc index) rest entries
AreEntries nodes piece index [] (entry ∷ entries) = ⊥
AreEntries nodes piece index (node ∷ rest) [] = ⊥

-- the pieces of a report in their order, then its ends, each numbered from 1 on
pub record AreInteractions (r : Report) (entries : List Interaction) : Type 0 where
  pub pieces : List Interaction
  pub ends : List Interaction
  pub whole : entries ≡ pieces ++ ends
  pub of_pieces : AreEntries r.nodes true 1 (map (λ line. line.node) r.pieces) pieces
  pub of_ends : AreEntries r.nodes false 1 (map (λ line. line.node) r.ends) ends

-- one entry more of a kind
pub record HasMore (nodes : List Node) (piece : Bool) (node : ℕ) (before after : List Interaction) : Type 0 where
  pub entry : Interaction
  pub more : after ≡ before ++ entry ∷ []
  pub is : IsEntry nodes piece (suc (length before)) node entry
