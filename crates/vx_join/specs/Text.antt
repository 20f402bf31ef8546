-- The text of a join.
use Rattle.std.specs.Prelude.{◌≡◌, ℕ, List}
use Rattle.vx_report.specs.declared.report.Report.{Report}
use Rattle.vx_report_reader.specs.Rules.{ReportText}
use Rattle.vx_join.specs.Joined.{IsJoined}

-- the bytes spell a report that is the join of these
pub record IsJoinedText (reports : List Report) (text : List ℕ) : Type 0 where
  pub report : Report
  pub spells : ReportText text report
  pub joined : IsJoined reports report

-- no other bytes do
pub record IsOnlyJoined (reports : List Report) (text : List ℕ) : Type 0 where
  pub only : (other : List ℕ) → IsJoinedText reports other → other ≡ text
