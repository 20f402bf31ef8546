use Rattle.std.proofs.Common.{[], ap, reverse, ◌++◌, ◌∙◌, ◌∷◌}
use Rattle.vx_plain.specs.Views.{state_of, values_of}
use Rattle.vx_plain.specs.declared.value.Value.TheVariants.{Ref}
use Rattle.vx_plain_throw.proofs.unwinding.handle.Goals as goal

pub returns : goal.returns
unfolding state_of
returns c =
    let s = state_of c.args.state.now in
    let alone = ap (λ values. reverse (values_of values)) (c.in_ok-push.ensures.items ∙ ap (λ values. values ++ Ref c.args.object ∷ []) c.clear.ensures.items) in
    λ i. record s { top = record (s.top) { position = c.args.handler; operands = alone i } }
