-- The configurations of each end of a report.
use Rattle.std.specs.Prelude.{◌≡◌, ℕ, suc, List, length, slice_get, Some}
use Rattle.vx_space.specs.Sets.{Sets, IsSet}
use Rattle.vx_report.specs.declared.report.Report.{Report}
use Rattle.vx_cover.specs.Covers.{has_this_end}

-- a set for each end of a report: of the configurations that have just this end
pub record AreFirstEnds {I : Type 0} (sets : Sets I) (r : Report) (ids : List I) : Type 0 where
  pub number : length ids ≡ length r.ends
  pub each : (place : ℕ) (id : I) → slice_get ids place ≡ Some id → IsSet sets id (has_this_end r (suc place))
