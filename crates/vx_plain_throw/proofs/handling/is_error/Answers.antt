use Rattle.std.proofs.Common.{ap, ◌∙◌}
use Rattle.vx_link.specs.Assignability.{assignable}
use Rattle.vx_plain_throw.proofs.handling.is_error.Goals as goal

pub returns : goal.returns
returns c = c.assignable.ensures ∙ ap (assignable c.args.program.now c.args.thrown.0) c.core_class.ensures
