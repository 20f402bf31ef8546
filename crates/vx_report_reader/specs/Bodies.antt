-- The body of a report while it is read.
use Rattle.std.specs.Prelude.{◌≡◌, ℕ, ◌+◌, Option, Some, None, length, Bool, nat_lt, nat_eq, not, ◌&&◌, List}
use Rattle.vx_bdd_tools.specs.declared.node.Node.{Node}
use Rattle.vx_bdd_tools.specs.Nodes.{level}
use Rattle.vx_bdd_tools.specs.Numbering.{NumbersAll}
use Rattle.vx_report.specs.declared.report.Report.{Report}
use Rattle.vx_report.specs.declared.line.Line.{Line}
use Rattle.vx_report_line.specs.Tables.{IsSetOf}
use Rattle.vx_report_line.specs.Falls.{IsFalling}
use Rattle.vx_report_reader.specs.declared.body.Body.{Body}
use Rattle.vx_report_reader.specs.Rules.{MayFollow, after, roots_of}
use Rattle.vx_report_reader.specs.Rules as rules

abbrev pub report_of : Body → Report
report_of b = record { version = b.version; options = b.options.items; limit = b.limit; rounds = b.rounds; nodes = b.table.nodes.items; pieces = b.pieces.items; ends = b.ends.items; attempts = b.attempts.items }

-- the table's set is that of its nodes, whose numbers fall, and the numbers below the body's are given
pub record IsSound (b : Body) : Type 0 where
  pub known : IsSetOf b.table.known b.table.nodes.items
  pub falls : IsFalling b.table.nodes.items
  pub walk : NumbersAll b.table.nodes.items 2 (roots_of (report_of b)) b.given

-- the body with one more line
pub record IsNext (old : Body) (line : Line) (new : Body) : Type 0 where
  pub may : MayFollow (rules.Body (report_of old)) line
  pub says : rules.Body (report_of new) ≡ after (rules.Body (report_of old)) line
  pub sound : IsSound new

-- a body goes on with a line, or the line may not follow
abbrev pub GoesOn : Body → Line → Option Body → Type 0
GoesOn body line None = MayFollow (rules.Body (report_of body)) line → ⊥
GoesOn body line (Some new) = IsNext body line new

-- what is tested of a node, but that it is new
abbrev pub next_test : ℕ → List Node → Node → Bool
next_test options nodes node = nat_lt node.option options && nat_lt node.low (length nodes + 2) && nat_lt node.high (length nodes + 2) && not (nat_eq node.low node.high) && nat_lt node.option (level options nodes node.low) && nat_lt node.option (level options nodes node.high)
