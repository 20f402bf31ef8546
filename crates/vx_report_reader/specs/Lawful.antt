-- A report by the rules for its parts, with no word of the order in which its lines are read.
use Rattle.std.specs.Prelude.{◌≡◌, ℕ, List, length, slice_get, take, true, false, Some, ◌&&◌, not, nat_eq, nat_le}
use Rattle.std.specs.List.{list_all}
use Rattle.vx_bdd_tools.specs.Numbering.{IsNumbered}
use Rattle.vx_report.specs.declared.report.Report.{Report}
use Rattle.vx_report.specs.Text.{report_lines}
use Rattle.vx_words.specs.Names.{AreNew}
use Rattle.vx_report_line.specs.Forms.{is_line}
use Rattle.vx_report_reader.specs.Rules.{roots_of, is_nil, comes_after, is_above, last_of}

-- each item of a list has a rule with those before it
abbrev pub EachFollows : {A : Type 0} → (List A → A → Type 0) → List A → Type 0
EachFollows {A} P xs = (place : ℕ) (x : A) → slice_get xs place ≡ Some x → P (take place xs) x

-- numbers, names and texts are in their ranges; no name stands twice; the nodes are reduced and numbered from the roots; there are ends, ascending; in version 2 alone there are numbers of attempts, ascending and within the limit
pub record IsLawful (r : Report) : Type 0 where
  pub lines : list_all is_line (report_lines r) ≡ true
  pub names : AreNew r.options
  pub numbered : IsNumbered (length r.options) r.nodes (roots_of r)
  pub ended : is_nil r.ends ≡ false
  pub ends : EachFollows (λ before line. comes_after (last_of before) line.end ≡ true) r.ends
  pub spent : nat_eq r.version 2 ≡ not (is_nil r.attempts)
  pub attempts : EachFollows (λ before line. (is_above (last_of before) line.attempts && nat_le line.attempts r.limit) ≡ true) r.attempts
