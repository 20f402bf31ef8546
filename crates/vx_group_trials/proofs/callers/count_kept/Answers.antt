use Rattle.std.proofs.Common.{◌∷◌, ◌++◌, [], ◌∙◌, ap}
use Rattle.vx_group_trials.proofs.Trials.{StandIn-one}
use Rattle.vx_group_trials.proofs.callers.count_kept.Goals as goal

pub sweep-requires : goal.sweep-requires
sweep-requires g c = StandIn-one _ _ _ _ c.in_ok-group.ensures.group (c.as_slice.ensures.value ∙ c.in_ok-push.ensures.items ∙ ap (λ groups. groups ++ c.in_ok-group.group ∷ []) c.new-groups.ensures.items)
