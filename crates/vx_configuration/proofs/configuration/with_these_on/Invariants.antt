use Rattle.std.proofs.Common.{◌≡◌, take, map}
use Rattle.vx_configuration.specs.Configuration.{is_among}
use Rattle.vx_configuration.proofs.configuration.with_these_on.Given as goal

-- the values so far
abbrev pub invariant-loop-option : goal.invariant-loop-option
invariant-loop-option l = l.values.items ≡ map (is_among l.names) (take l.option-index l.options)
