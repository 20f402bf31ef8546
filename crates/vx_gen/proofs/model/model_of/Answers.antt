use Rattle.std.proofs.Common.{ap, map, ◌∙◌}
use Rattle.std.proofs.lemmas.List.{take_all}
use Rattle.vx_gen.specs.Parts.{option_of}
use Rattle.vx_gen.proofs.Same.{same_model, then_same}
use Rattle.vx_gen.proofs.model.model_of.Goals as goal

pub returns : goal.returns
returns c =
    let options = c.loop-name.invariant ∙ ap (map (λ n. option_of n.now)) (take_all c.loop-name.name-index c.args.names.now c.loop-name-test.false) in
    λ texts are. then_same _ _ _ (same_model c.args.names.now c.loop-name.options.items options texts are) (cc)
