-- A report is determined by what it says, since sets have one list of nodes in the numbering (Bryant 1986 for reduced and ordered diagrams; the numbering is own).
use Rattle.std.specs.Prelude.{◌≡◌, ℕ, Bool, List, length}
use Rattle.std.specs.List.{AllZip}
use Rattle.vx_bdd_tools.specs.Nodes.{holds}
use Rattle.vx_bdd_tools.specs.Numbering.{IsNumbered}
use Rattle.vx_report.specs.declared.report.AttemptLine.{AttemptLine}
use Rattle.vx_report.specs.declared.report.EndLine.{EndLine}
use Rattle.vx_report.specs.declared.report.Piece.{Piece}
use Rattle.vx_report.specs.declared.report.Report.{Report}
use Rattle.vx_report_reader.specs.Rules.{roots_of}

-- a node of one report holds the configurations, with a value for each option, that a node of another does
abbrev pub HoldSame : Report → Report → ℕ → ℕ → Type 0
HoldSame one other a b = (c : List Bool) → length c ≡ length one.options → holds one.nodes a c ≡ holds other.nodes b c

-- one text on one stream, for the same configurations
pub record IsSamePiece (one other : Report) (a b : Piece) : Type 0 where
  pub stream : a.stream ≡ b.stream
  pub text : a.text ≡ b.text
  pub holds : HoldSame one other a.node b.node

-- one end for the same configurations
pub record IsSameEnd (one other : Report) (a b : EndLine) : Type 0 where
  pub end : a.end ≡ b.end
  pub holds : HoldSame one other a.node b.node

-- one number of attempts for the same configurations
pub record IsSameNumber (one other : Report) (a b : AttemptLine) : Type 0 where
  pub attempts : a.attempts ≡ b.attempts
  pub holds : HoldSame one other a.node b.node

-- two reports say the same, with any nodes and numbers
pub record SaySame (one other : Report) : Type 0 where
  pub version : one.version ≡ other.version
  pub options : one.options ≡ other.options
  pub limit : one.limit ≡ other.limit
  pub rounds : one.rounds ≡ other.rounds
  pub pieces : AllZip (IsSamePiece one other) one.pieces other.pieces
  pub ends : AllZip (IsSameEnd one other) one.ends other.ends
  pub attempts : AllZip (IsSameNumber one other) one.attempts other.attempts

-- the nodes of a report are in the numbering that its pieces, then its ends, then its numbers of attempts give
abbrev pub IsInOrder : Report → Type 0
IsInOrder r = IsNumbered (length r.options) r.nodes (roots_of r)

-- the law
abbrev pub ReportsAreOne : Type 0
ReportsAreOne = (one other : Report) → IsInOrder one → IsInOrder other → SaySame one other → one ≡ other
