use Rattle.vx_container_trials.proofs.Trials.{IsRow-one}
use Rattle.vx_container_trials.proofs.rows.row_of.Goals as goal

pub returns-clause-valid : goal.returns-clause-valid
returns-clause-valid g c = let both = IsRow-one _ _ _ _ _ c.scope.result c.in_ok-value.ensures.valid c.scope.ensures c.new-row.ensures c.in_ok-push.ensures.ok in both.0

pub returns-clause-one : goal.returns-clause-one
returns-clause-one g c = let both = IsRow-one _ _ _ _ _ c.scope.result c.in_ok-value.ensures.valid c.scope.ensures c.new-row.ensures c.in_ok-push.ensures.ok in both.1
