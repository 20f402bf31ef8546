use Rattle.std.proofs.Common.{◌∙◌, ap}
use Rattle.std.specs.List.{list_any}
use Rattle.vx_java.proofs.Chains.{blocks_at, has_body}
use Rattle.vx_java.proofs.initialisation.blocks.Goals as goal

pub returns-then-interface : goal.returns-then-interface
returns-then-interface c =
    let p = c.args.program.now in
    c.some_default_body.ensures
    ∙ ap (list_any (λ m. has_body p m.0)) c.as_slice.ensures
    ∙ blocks_at p c.args.place c.in-Some.interface.now c.in-Some.ensures c.if-interface.true
