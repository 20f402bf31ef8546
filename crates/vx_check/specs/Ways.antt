-- The ways in which configurations fail, and what is told of each.
use Rattle.std.specs.Prelude.{ℕ, suc, Bool, not, ◌&&◌, List, [], ◌∷◌, ◌++◌, length, map, Option, Some, None, option_map, if◌then◌else◌}
use Rattle.std.specs.List.{flat_map}
use Rattle.std.specs.List.Sorted.{IsPermutation, IsSortedBy, IsStableBy}
use Rattle.std.specs.Ordering.{is_lt, nat_cmp, ordering_then}
use Rattle.vx_value.specs.declared.end.End.{End}
use Rattle.vx_model.specs.Models.{is_allowed}
use Rattle.vx_report.specs.declared.report.EndLine.{EndLine}
use Rattle.vx_report.specs.declared.report.Report.{Report}
use Rattle.vx_report.specs.Lines.{end_words}
use Rattle.vx_cover.specs.Covers.{has_end, has_this_end}
use Rattle.vx_count.specs.Listed.{first_settings}
use Rattle.vx_count.specs.Settings.{number}
use Rattle.vx_explain.specs.Scopes.{rule_within}
use Rattle.vx_check.specs.Ends.{fits, passes, rank}
use Rattle.vx_check.specs.Failing.{spoken}
use Rattle.vx_check.specs.declared.expected.Expectation.{Expectation}
use Rattle.vx_check.specs.declared.told.Told.{Told}

-- an end of a report, its place from 0 on, and the configurations whose end it is
pub record Ending : Type 0 where
  pub place : ℕ
  pub end : End
  pub has : List Bool → Bool

abbrev pub endings_from : Report → ℕ → List EndLine → List Ending
endings_from r place [] = []
endings_from r place (line ∷ lines) = record { place = place; end = line.end; has = has_this_end r (suc place) } ∷ endings_from r (suc place) lines

abbrev pub endings : Report → List Ending
endings r = endings_from r 0 r.ends

-- a way to fail: an end, the line that it misses, if one speaks, and the configurations that fail so
pub record Way : Type 0 where
  pub ending : Ending
  pub line : Option ℕ
  pub has : List Bool → Bool

-- the end is as the line says, or comes to its end where no line speaks
abbrev pub is_good : Option Expectation → End → Bool
is_good None end = passes end
is_good (Some line) end = fits line.end end

abbrev pub number_of : Option Expectation → Option ℕ
number_of line = option_map (λ (l : Expectation). l.line) line

-- the way of an end among the configurations of a set, unless it is good there
abbrev pub way_by : Option Expectation → (List Bool → Bool) → Ending → List Way
way_by line set ending = if is_good line ending.end then [] else record { ending = ending; line = number_of line; has = λ c. ending.has c && set c } ∷ []

abbrev pub ways_by : Report → Option Expectation → (List Bool → Bool) → List Way
ways_by r line set = flat_map (way_by line set) (endings r)

abbrev pub ways_missed : Report → List Expectation → List Way
ways_missed r expected = flat_map (λ line. ways_by r (Some line) (is_allowed line.model)) expected

-- for each line and each end that doesn't fit it those of which the line speaks, and for each end that should not be those of which no line speaks
abbrev pub ways_of : Report → List Expectation → List Way
ways_of r expected = ways_missed r expected ++ ways_by r None (λ c. not (spoken expected c))

-- what is told of a way, with the first configuration that fails so; nothing where there is none
abbrev pub told_of : Report → Way → List Told
told_of r way = map (λ c. record {
  rank = rank way.ending.end;
  place = way.ending.place;
  end = end_words way.ending.end;
  line = way.line;
  number = number (length r.options) way.has;
  example = c;
  rule = rule_within (length r.options) way.has (has_end r);
}) (first_settings 1 (length r.options) way.has)

abbrev pub told_all : Report → List Way → List Told
told_all r ways = flat_map (told_of r) ways

-- worse ends come first, then what more configurations have, then what stands first in the report
abbrev pub comes_before : Told → Told → Bool
comes_before one other = is_lt (ordering_then (ordering_then (nat_cmp one.rank other.rank) (nat_cmp other.number one.number)) (nat_cmp one.place other.place))

-- the same, sorted; what ties stays in its order
pub record IsSortedOf (found told : List Told) : Type 0 where
  pub same : IsPermutation found told
  pub worst_first : IsSortedBy comes_before told
  pub stable : IsStableBy comes_before found told
