-- The text of a report: its lines in their order.
use Rattle.std.specs.Prelude.{ℕ, suc, List, [], ◌∷◌, ◌++◌, map, length}
use Rattle.std.specs.List.{flat_map}
use Rattle.vx_bdd_tools.specs.declared.node.Node.{Node}
use Rattle.vx_report.specs.declared.report.Report.{Report}
use Rattle.vx_report.specs.declared.line.Line.{Line}
use Rattle.vx_report.specs.declared.line.Line.TheVariants.{Head, Count, Named, Limit, Rounds, Numbered, Printed, Ended, Spent, Done}
use Rattle.vx_report.specs.Lines.{whole_line}

-- nodes with their numbers, from a number on
abbrev pub numbered : ℕ → List Node → List Line
numbered id [] = []
numbered id (node ∷ nodes) = Numbered id node ∷ numbered (suc id) nodes

-- what a report says of all configurations
unfoldable pub front_lines : Report → List Line
front_lines r = Head r.version ∷ Count (length r.options) ∷ map Named r.options ++ (Limit r.limit ∷ Rounds r.rounds ∷ [])

-- what was written, how the runs ended, and how many attempts they used, each with its configurations
unfoldable pub found_lines : Report → List Line
found_lines r = map Printed r.pieces ++ map Ended r.ends ++ map Spent r.attempts

abbrev pub report_lines : Report → List Line
report_lines r = front_lines r ++ numbered 2 r.nodes ++ found_lines r ++ Done ∷ []

-- the one spelling of a report
unfoldable pub report_text : Report → List ℕ
report_text r = flat_map whole_line (report_lines r)
