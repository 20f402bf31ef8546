-- Where two reports differ: where one of them has an end, and they don't agree.
use Rattle.std.specs.Prelude.{◌≡◌, ℕ, Bool, false, true, not, ◌&&◌, ◌||◌, List, length}
use Rattle.vx_report.specs.Projection.{end_at, output_at}
use Rattle.vx_report.specs.declared.report.Report.{Report}
use Rattle.vx_agree.specs.Ends.{are_one_end}
use Rattle.vx_agree.specs.Equal.{are_equal}
use Rattle.vx_cover.specs.Covers.{has_end}
use Rattle.vx_count.specs.Settings.{number}
use Rattle.vx_compare.specs.Names.{all_names, seen}

-- one of them has an end, the one at this configuration or the other at that
abbrev pub has_either_at : Report → List Bool → Report → List Bool → Bool
has_either_at one c other d = has_end one c || has_end other d

-- both have one end, and one output, as bytes on streams
abbrev pub agrees_at : Report → List Bool → Report → List Bool → Bool
agrees_at one c other d = are_one_end (end_at one c) (end_at other d) && are_equal (output_at one c) (output_at other d)

abbrev pub differs_at : Report → List Bool → Report → List Bool → Bool
differs_at one c other d = has_either_at one c other d && not (agrees_at one c other d)

-- ---- of reports over the same options

abbrev pub has_either : Report → Report → List Bool → Bool
has_either one other c = has_either_at one c other c

abbrev pub differs : Report → Report → List Bool → Bool
differs one other c = differs_at one c other c

-- at how many configurations they differ
abbrev pub differing : Report → Report → ℕ
differing one other = number (length one.options) (differs one other)

-- ---- of any two reports, at configurations over the options of both

abbrev pub differs_seen : Report → Report → List Bool → Bool
differs_seen one other c =
    let all = all_names one.options other.options in
    differs_at one (seen one.options all c) other (seen other.options all c)

abbrev pub differing_seen : Report → Report → ℕ
differing_seen one other = number (length (all_names one.options other.options)) (differs_seen one other)

abbrev pub NoneDiffers : Report → Report → Type 0
NoneDiffers one other = (c : List Bool) → length c ≡ length (all_names one.options other.options) → differs_seen one other c ≡ false

abbrev pub SomeDiffers : Report → Report → Type 0
SomeDiffers one other = (c : List Bool) × (length c ≡ length (all_names one.options other.options)) × (differs_seen one other c ≡ true)
