-- The options of two reports, and how each of them sees a configuration over all of these.
use Rattle.std.specs.Prelude.{◌≡◌, ℕ, Bool, List, ◌++◌, filter, length, map, nat_eq}
use Rattle.std.specs.List.{position_or_len}
use Rattle.std.specs.Str.{bytes_eq}
use Rattle.vx_space.specs.Config.{value_of}
use Rattle.vx_report.specs.Projection.{project}
use Rattle.vx_report.specs.declared.report.Report.{Report}
use Rattle.vx_report_reader.specs.Lawful.{IsLawful}

-- the place of a name among others; their number, where it is none of them
abbrev pub place_of : List (List ℕ) → List ℕ → ℕ
place_of names name = position_or_len (λ other. bytes_eq other name) names

abbrev pub places_of : (all names : List (List ℕ)) → List ℕ
places_of all names = map (place_of all) names

-- a name is none of some
abbrev pub is_new : List (List ℕ) → List ℕ → Bool
is_new names name = nat_eq (place_of names name) (length names)

-- those of the one, and behind them those that the other alone has
abbrev pub all_names : List (List ℕ) → List (List ℕ) → List (List ℕ)
all_names one other = one ++ filter (is_new one) other

-- the values of a configuration at some places
abbrev pub values_at : List ℕ → List Bool → List Bool
values_at places c = map (value_of c) places

-- a configuration over all options as a report with these options sees it; the others are free
abbrev pub seen : (names all : List (List ℕ)) → List Bool → List Bool
seen names all c = values_at (places_of all names) c

-- a report over all options that says what another one says of its own
pub record IsWide (report : Report) (all : List (List ℕ)) (wide : Report) : Type 0 where
  pub lawful : IsLawful wide
  pub options : wide.options ≡ all
  pub same : (c : List Bool) → project wide c ≡ project report (seen report.options all c)
