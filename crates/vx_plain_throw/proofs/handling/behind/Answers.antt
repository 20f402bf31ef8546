use Rattle.std.proofs.Common.{Some, ap, ◌∙◌}
use Rattle.vx_plain_throw.proofs.Laws.{behind_by}
use Rattle.vx_plain_throw.proofs.handling.behind.Goals as goal

pub returns-in-Some : goal.returns-in-Some
returns-in-Some c = ap (behind_by c.args.program.now c.args.frame.now.kind c.args.thrown.0) c.in-Some.ensures

pub returns-in-None : goal.returns-in-None
returns-in-None c = ap Some c.class_behind.ensures ∙ ap (behind_by c.args.program.now c.args.frame.now.kind c.args.thrown.0) c.in-None.ensures
