-- Which configurations end otherwise than they should.
use Rattle.std.specs.Prelude.{◌≡◌, ℕ, Bool, true, false, not, ◌&&◌, List, Option, Some, None, length, if◌then◌else◌}
use Rattle.std.specs.List.{list_any}
use Rattle.vx_value.specs.declared.end.End.{End}
use Rattle.vx_model.specs.Models.{is_allowed}
use Rattle.vx_report.specs.declared.report.Report.{Report}
use Rattle.vx_report.specs.Projection.{end_at}
use Rattle.vx_count.specs.Settings.{number}
use Rattle.vx_check.specs.Ends.{fits, passes}
use Rattle.vx_check.specs.declared.expected.Expectation.{Expectation}

-- a line speaks of a configuration where its rule is true
abbrev pub speaks : List Bool → Expectation → Bool
speaks c line = is_allowed line.model c

-- some line does
abbrev pub spoken : List Expectation → List Bool → Bool
spoken expected c = list_any (speaks c) expected

-- a line speaks of a configuration, whose end doesn't fit it
abbrev pub is_missed : End → List Bool → Expectation → Bool
is_missed end c line = speaks c line && not (fits line.end end)

-- where lines speak of a configuration its end has to fit each of them; where none does, the program has to come to its end
abbrev pub fails_with : List Expectation → List Bool → End → Bool
fails_with expected c end = if spoken expected c then list_any (is_missed end c) expected else not (passes end)

abbrev pub fails_at : List Expectation → List Bool → Option End → Bool
fails_at expected c None = false
fails_at expected c (Some end) = fails_with expected c end

-- the configuration has an end, which isn't as it should be
abbrev pub fails : Report → List Expectation → List Bool → Bool
fails r expected c = fails_at expected c (end_at r c)

-- how many configurations fail
abbrev pub failing : Report → List Expectation → ℕ
failing r expected = number (length r.options) (fails r expected)

-- of the configurations that have a value for each option none fails; and one does
abbrev pub NoneFails : Report → List Expectation → Type 0
NoneFails r expected = (c : List Bool) → length c ≡ length r.options → fails r expected c ≡ false

abbrev pub SomeFails : Report → List Expectation → Type 0
SomeFails r expected = (c : List Bool) × (length c ≡ length r.options) × (fails r expected c ≡ true)
