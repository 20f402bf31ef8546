use Rattle.std.proofs.Common.{refl}
use Rattle.vx_explain.proofs.Halves.{AreParts-same, free_end, free_other}
use Rattle.vx_explain.proofs.parts.parts.Goals.{in_default-via-in-Some+else-top-option, in_default-via-in_default}
use Rattle.vx_explain.proofs.parts.parts.Goals as goal

pub returns-in_default : goal.returns-in_default
returns-in_default g c = AreParts-same (g.met.S.Space.lawful c.args.space.now) c.args.set c.requires.known c.args.option (elim c.in_default.branch [
  | in_default-via-in-Some+else-top-option w ↦ free_other c.args.set w.in-Some.top.1 w.in-Some.top.2 w.in-Some.top.0 c.args.option c.requires.free w.in-Some.ensures.some w.if-top-option.false
  | in_default-via-in_default w ↦ free_end (g.met.S.Space.lawful c.args.space.now) c.args.set (w.in_default.ensures.none.0 refl) c.args.option
])
