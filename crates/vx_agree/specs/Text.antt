-- The text of an agreement: the options, the nodes of the one set, and its number among them.
use Rattle.std.specs.Prelude.{◌≡◌, ℕ, Bool, true, List, [], ◌∷◌, ◌++◌, map, length, codes, decimal}
use Rattle.std.specs.List.{flat_map}
use Rattle.vx_bdd_tools.specs.declared.node.Node.{Node}
use Rattle.vx_bdd_tools.specs.Nodes.{holds}
use Rattle.vx_bdd_tools.specs.Numbering.{IsNumbered}
use Rattle.vx_report.specs.declared.line.Line.TheVariants.{Count, Named}
use Rattle.vx_report.specs.declared.report.Report.{Report}
use Rattle.vx_report.specs.Lines.{whole_line}
use Rattle.vx_report.specs.Text.{numbered}
use Rattle.vx_agree.specs.Agreement.{AgreeAt}

-- the number of the set, and the last line
abbrev pub root_lines : ℕ → List ℕ
root_lines root = codes "agree " ++ decimal root ++ codes "\n" ++ codes "done\n"

-- a head, the options and the nodes as a report has them, the number of the set, and the last line
unfoldable pub set_text : List (List ℕ) → List Node → ℕ → List ℕ
set_text names nodes root = codes "varexj agree 1\n" ++ (whole_line (Count (length names)) ++ flat_map whole_line (map Named names)) ++ flat_map whole_line (numbered 2 nodes) ++ root_lines root

-- The text shows just the configurations at which two reports agree, over the options of the first, by nodes in the numbering of reports.
pub record IsAgreementText (one other : Report) (text : List ℕ) : Type 0 where
  pub nodes : List Node
  pub root : ℕ
  pub agree : (c : List Bool) → holds nodes root c ≡ true → AgreeAt one other c
  pub all : (c : List Bool) → AgreeAt one other c → holds nodes root c ≡ true
  pub numbered : IsNumbered (length one.options) nodes (root ∷ [])
  pub spelled : text ≡ set_text one.options nodes root
