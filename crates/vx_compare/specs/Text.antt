-- The text of a comparison: a head, at how many configurations one of the reports has an end and at how many of them they differ, the rule of all of these, each way to differ, and a last line.
use Rattle.std.specs.Prelude.{◌≡◌, ℕ, Bool, List, [], ◌++◌, length, Option, Some, None, nat_eq, codes, decimal, if◌then◌else◌}
use Rattle.std.specs.List.{flat_map}
use Rattle.vx_value.specs.Words.{text_of}
use Rattle.vx_report.specs.Lines.{stream_word}
use Rattle.vx_report.specs.declared.report.Report.{Report}
use Rattle.vx_cover.specs.Text.{configuration_text}
use Rattle.vx_count.specs.Settings.{number}
use Rattle.vx_explain.specs.Scopes.{rule_within}
use Rattle.vx_explain.specs.Text.{spelled_rule}
use Rattle.vx_explain.specs.declared.rule.Rule.{Rule}
use Rattle.vx_compare.specs.Differ.{differing, differs, has_either}
use Rattle.vx_compare.specs.Names.{IsWide, all_names}
use Rattle.vx_compare.specs.Ways.{ways_of}
use Rattle.vx_compare.specs.declared.comparing.Compared.{Compared}
use Rattle.vx_compare.specs.declared.lines.Difference.{Difference}
use Rattle.vx_compare.specs.declared.lines.Difference.TheVariants.{Line, Mixed, Nothing}
use Rattle.vx_compare.specs.declared.lines.LineDifference.{LineDifference}
use Rattle.vx_compare.specs.declared.ways.Way.{Way}

abbrev pub given_text : List (List ℕ) → Option Rule → List ℕ
given_text names None = codes "-"
given_text names (Some rule) = spelled_rule names rule

abbrev pub when_line : List (List ℕ) → Option Rule → List ℕ
when_line names rule = codes "when " ++ given_text names rule ++ codes "\n"

-- the stream and the number of the first line that differs
abbrev pub place_line : LineDifference → List ℕ
place_line line = codes "line " ++ stream_word line.stream ++ codes " " ++ decimal line.number ++ codes "\n"

-- its front in each of the two
abbrev pub front_lines : LineDifference → List ℕ
front_lines line = codes "one " ++ text_of line.one ++ codes "\nother " ++ text_of line.other ++ codes "\n"

abbrev pub line_text : LineDifference → List ℕ
line_text line = place_line line ++ front_lines line

abbrev pub difference_text : Difference → List ℕ
difference_text Nothing = []
difference_text Mixed = codes "mixed\n"
difference_text (Line line) = line_text line

-- the ends of a way, and how many configurations it has
abbrev pub ends_text : Way → List ℕ
ends_text way = codes "way " ++ way.one ++ codes "\nother " ++ way.other ++ codes "\ncount " ++ decimal way.number ++ codes "\n"

abbrev pub example_line : List (List ℕ) → List Bool → List ℕ
example_line names example = codes "example " ++ configuration_text names example ++ codes "\n"

abbrev pub way_text : List (List ℕ) → Way → List ℕ
way_text names way = ends_text way ++ when_line names way.rule ++ example_line names way.example ++ difference_text way.difference

-- the rule of all, where there is one that differs
abbrev pub all_line : List (List ℕ) → Compared → List ℕ
all_line names compared = if nat_eq compared.differ 0 then [] else when_line names compared.rule

-- at how many configurations one of the reports has an end, and at how many of them they differ
abbrev pub counts_text : Compared → List ℕ
counts_text compared = codes "of " ++ decimal compared.of ++ codes "\ndiffer " ++ decimal compared.differ ++ codes "\n"

unfoldable pub compared_text : List (List ℕ) → Compared → List ℕ
compared_text names compared = codes "varexj compare 1\n" ++ counts_text compared ++ all_line names compared ++ flat_map (way_text names) compared.ways ++ codes "done\n"

-- where two reports over the same options differ
abbrev pub compared_of : Report → Report → Compared
compared_of one other = record {
  of = number (length one.options) (has_either one other);
  differ = differing one other;
  rule = rule_within (length one.options) (differs one other) (has_either one other);
  ways = ways_of one other;
}

-- the text is that of the comparison of two reports, each over the options of both
pub record IsComparisonText (one other : Report) (text : List ℕ) : Type 0 where
  pub wide_one : Report
  pub is_wide_one : IsWide one (all_names one.options other.options) wide_one
  pub wide_other : Report
  pub is_wide_other : IsWide other (all_names one.options other.options) wide_other
  pub spelled : text ≡ compared_text (all_names one.options other.options) (compared_of wide_one wide_other)
