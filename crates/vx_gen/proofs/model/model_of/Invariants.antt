use Rattle.std.proofs.Common.{map, take, ◌≡◌}
use Rattle.vx_gen.specs.Parts.{option_of}
use Rattle.vx_gen.proofs.model.model_of.Given as goal

abbrev pub invariant-loop-name : goal.invariant-loop-name
invariant-loop-name l = l.options.items ≡ map (λ n. option_of n.now) (take l.name-index l.names)
