use Rattle.std.proofs.Common.{◌≡◌, take, map}
use Rattle.vx_engine_trials.proofs.runs.names_of.Given as goal

-- the names so far
abbrev pub invariant-loop-option : goal.invariant-loop-option
invariant-loop-option l = l.names.items ≡ map (λ o. o.name) (take l.option-index l.option-items)
