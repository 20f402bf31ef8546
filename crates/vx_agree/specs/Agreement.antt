-- At which configurations two reports say the same: equal output, as bytes on streams, and an equal end. Numbers of attempts, rounds and limits are not compared.
use Rattle.std.specs.Prelude.{◌≡◌, Bool, true, List, Some}
use Rattle.vx_space.specs.Sets.{Sets}
use Rattle.vx_report.specs.Projection.{end_at, output_at}
use Rattle.vx_report.specs.declared.report.Report.{Report}
use Rattle.vx_value.specs.declared.end.End.{End}

-- both reports have a projection at the configuration, with one output and one end
pub record AgreeAt (one other : Report) (c : List Bool) : Type 0 where
  pub end : End
  pub of_one : end_at one c ≡ Some end
  pub of_other : end_at other c ≡ Some end
  pub output : output_at one c ≡ output_at other c

-- the set has just the configurations at which two reports agree
pub record IsAgreement {I : Type 0} (sets : Sets I) (one other : Report) (id : I) : Type 0 where
  pub known : sets.is_known id ≡ true
  pub agree : (c : List Bool) → sets.test id c ≡ true → AgreeAt one other c
  pub all : (c : List Bool) → AgreeAt one other c → sets.test id c ≡ true
