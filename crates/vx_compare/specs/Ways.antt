-- The ways in which two reports differ: pairs of ends, of which one may not be there.
use Rattle.std.specs.Prelude.{◌≡◌, ℕ, suc, Bool, not, ◌&&◌, List, [], ◌∷◌, length, map, slice_get, Option, Some, None, codes}
use Rattle.std.specs.List.{AllZip, flat_map}
use Rattle.vx_space.specs.Sets.{Sets, IsSet}
use Rattle.vx_report.specs.Lines.{end_words}
use Rattle.vx_report.specs.declared.report.EndLine.{EndLine}
use Rattle.vx_report.specs.declared.report.Report.{Report}
use Rattle.vx_cover.specs.Covers.{has_end, has_this_end}
use Rattle.vx_count.specs.Listed.{first_settings}
use Rattle.vx_count.specs.Settings.{number}
use Rattle.vx_explain.specs.Scopes.{rule_within}
use Rattle.vx_compare.specs.Differ.{differs, has_either}
use Rattle.vx_compare.specs.Lines.{difference_at}
use Rattle.vx_compare.specs.declared.ways.Side as found
use Rattle.vx_compare.specs.declared.ways.Way.{Way}

-- the place of an end of a report, or none, and the configurations that have it
pub record Side : Type 0 where
  pub end : Option ℕ
  pub has : List Bool → Bool

abbrev pub sides_from : Report → ℕ → List EndLine → List Side
sides_from r place [] = record { end = None; has = λ c. not (has_end r c) } ∷ []
sides_from r place (line ∷ lines) = record { end = Some place; has = has_this_end r (suc place) } ∷ sides_from r (suc place) lines

-- the ends in their order, and at last that there is none
abbrev pub sides : Report → List Side
sides r = sides_from r 0 r.ends

-- the words of an end line, if there is one
abbrev pub line_words : Option EndLine → List ℕ
line_words None = []
line_words (Some line) = end_words line.end

-- the words of the end at a place; a dash for none
abbrev pub words_of : Report → Option ℕ → List ℕ
words_of r None = codes "-"
words_of r (Some place) = line_words (slice_get r.ends place)

-- what is told of the configurations of a set, of which one is given
abbrev pub way_of : Report → Report → Option ℕ → Option ℕ → (List Bool → Bool) → List Bool → Way
way_of one other end against has c = record {
  one = words_of one end;
  other = words_of other against;
  number = number (length one.options) has;
  rule = rule_within (length one.options) has (has_either one other);
  example = c;
  difference = difference_at one other c;
}

-- what is told of the configurations of a set, with the first of them; nothing where there is none
abbrev pub way_by : Report → Report → Option ℕ → Option ℕ → (List Bool → Bool) → List Way
way_by one other end against has = map (way_of one other end against has) (first_settings 1 (length one.options) has)

-- those of a set, by the end that the other one has there
abbrev pub ways_against : Report → Report → Option ℕ → (List Bool → Bool) → List Way
ways_against one other end here = flat_map (λ against. way_by one other end against.end (λ c. here c && against.has c)) (sides other)

-- those of the configurations that differ, by the ends of both
abbrev pub ways_of : Report → Report → List Way
ways_of one other = flat_map (λ side. ways_against one other side.end (λ c. side.has c && differs one other c)) (sides one)

-- ---- in a space

-- the same with the id of its configurations
pub record IsSide {I : Type 0} (sets : Sets I) (side : Side) (it : found.Side I) : Type 0 where
  pub end : it.end ≡ side.end
  pub set : IsSet sets it.set side.has

abbrev pub AreSides : {I : Type 0} → Sets I → List Side → List (found.Side I) → Type 0
AreSides sets sides its = AllZip (IsSide sets) sides its

-- the ids of the ends from a place on, each with its place
abbrev pub ids_from : {I : Type 0} → ℕ → List I → List (found.Side I)
ids_from place [] = []
ids_from place (id ∷ ids) = record { end = Some place; set = id } ∷ ids_from (suc place) ids
