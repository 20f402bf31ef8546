use Rattle.std.proofs.Common.{ap, ◌∙◌}
use Rattle.std.specs.Prelude.{option_map}
use Rattle.vx_flow.specs.Flowing.{plain}
use Rattle.vx_types.specs.Flow.{after, settled, targets_by, targets_of}
use Rattle.vx_flow.proofs.flowing.flow_by.Goals as goal

pub returns : goal.returns
returns c =
    let code = c.args.code.now in
    let these = targets_of code.bytes c.args.at c.args.size c.args.operation in
    c.settled.ensures
    ∙ ap (λ ts. settled code ts (option_map plain c.in_ok-made.made)) (c.in_ok-targets.ensures ∙ ap (λ bytes. targets_by c.in_ok-row.row (targets_of bytes c.args.at c.args.size c.args.operation)) c.as_slice.ensures)
    ∙ ap (settled code (targets_by c.in_ok-row.row these)) c.in_ok-made.ensures
    ∙ ap (λ r. settled code (targets_by r these) (after c.args.program.now r (plain c.args.before.now))) c.in_ok-row.ensures
