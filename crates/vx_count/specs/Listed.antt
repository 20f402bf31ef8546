-- The first settings at which a report has an end.
use Rattle.std.specs.Prelude.{ℕ, Bool, List, length, filter, take}
use Rattle.vx_report.specs.declared.report.Report.{Report}
use Rattle.vx_cover.specs.Covers.{has_end}
use Rattle.vx_count.specs.declared.listed.Listed.{Listed}
use Rattle.vx_count.specs.Settings.{number, settings}

-- the first n settings of a test
abbrev pub first_settings : ℕ → ℕ → (List Bool → Bool) → List (List Bool)
first_settings n options test = take n (filter test (settings options))

-- how many settings have an end, and the first n of them
unfoldable pub listed_of : ℕ → Report → Listed
listed_of n r = record { of = number (length r.options) (has_end r); configurations = first_settings n (length r.options) (has_end r) }
