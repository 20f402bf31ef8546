-- What was found so far, and what one more step finds.
use Rattle.std.specs.Prelude.{◌≡◌, Bool, true, List, ◌++◌, length, Option}
use Rattle.std.specs.List.{flat_map, list_any}
use Rattle.std.specs.declared.cmp.Ordering.{Ordering}
use Rattle.std.specs.BTreeMap.{get}
use Rattle.vx_space.specs.Sets.{Sets, IsKnown, IsSet}
use Rattle.vx_report.specs.declared.report.Report.{Report}
use Rattle.vx_cover.specs.Covers.{has_end}
use Rattle.vx_count.specs.Memo.{AreNumbers}
use Rattle.vx_check.specs.Lines.{AreEnded, IsEnded}
use Rattle.vx_count.specs.Settings.{number}
use Rattle.vx_check.specs.Ways.{Ending, IsSortedOf, Way, endings, told_all, way_by, ways_missed, ways_of}
use Rattle.vx_check.specs.declared.ended.Ended.{Ended}
use Rattle.vx_check.specs.declared.expected.Expectation.{Expectation}
use Rattle.vx_check.specs.declared.finding.Finding.{Finding}
use Rattle.vx_check.specs.declared.told.Checked.{Checked}

-- a configuration fails in one of some ways
abbrev pub in_some : List Way → List Bool → Bool
in_some ways c = list_any (λ (w : Way). w.has c) ways

-- the scope is where the report has an end, and the options are the report's
pub record IsScope {I : Type 0} (sets : Sets I) (r : Report) (scope : I) : Type 0 where
  pub options : length r.options ≡ sets.options
  pub set : IsSet sets scope (has_end r)

-- the numbers are right, and the set is known
pub record IsSound {I : Type 0} (sets : Sets I) (cmp : I → I → Ordering) (finding : Finding I) : Type 0 where
  pub numbers : AreNumbers sets (get cmp finding.numbers)
  pub failing : IsKnown sets finding.failing

-- some ways to fail were told, and joined
pub record AreFound {I : Type 0} (sets : Sets I) (r : Report) (ways : List Way) (finding : Finding I) : Type 0 where
  pub told : finding.told.items ≡ told_all r ways
  pub failing : IsSet sets finding.failing (in_some ways)

-- the way of one end in a set is found behind those before
abbrev pub FindsAt : {I : Type 0} → Sets I → Sets I → I → Ended I → Option Expectation → I → Finding I → Finding I → Type 0
FindsAt old new scope ended line set f f' = (r : Report) (ending : Ending) (has : List Bool → Bool) (ways : List Way) → IsScope old r scope → IsEnded old ending ended → IsSet old set has → AreFound old r ways f → AreFound new r (ways ++ way_by line has ending) f'

-- those of some ends in a set are
abbrev pub FindsIn : {I : Type 0} → Sets I → Sets I → I → List (Ended I) → Option Expectation → I → Finding I → Finding I → Type 0
FindsIn old new scope ends line set f f' = (r : Report) (endings : List Ending) (has : List Bool → Bool) (ways : List Way) → IsScope old r scope → AreEnded old endings ends → IsSet old set has → AreFound old r ways f → AreFound new r (ways ++ flat_map (way_by line has) endings) f'

-- those of some ends that miss lines are
abbrev pub FindsMissed : {I : Type 0} → Sets I → Sets I → I → List (Ended I) → List Expectation → Finding I → Finding I → Type 0
FindsMissed old new scope ends expected f f' = (r : Report) (ways : List Way) → IsScope old r scope → AreEnded old (endings r) ends → AreFound old r ways f → AreFound new r (ways ++ ways_missed r expected) f'

-- all that there is to find was found
abbrev pub HasFound : {I : Type 0} → Sets I → Sets I → I → List (Ended I) → List Expectation → Finding I → Type 0
HasFound old new scope ends expected f = (r : Report) → IsScope old r scope → AreEnded old (endings r) ends → AreFound new r (ways_of r expected) f

-- what was found, counted and sorted
pub record IsCounted {I : Type 0} (sets : Sets I) (scope : I) (finding : Finding I) (checked : Checked) : Type 0 where
  pub of : checked.of ≡ number sets.options (sets.test scope)
  pub failing : checked.failing ≡ number sets.options (sets.test finding.failing)
  pub told : IsSortedOf finding.told.items checked.told
