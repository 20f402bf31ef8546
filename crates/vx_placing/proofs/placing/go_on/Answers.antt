use Rattle.vx_placing.proofs.Going.{none_used, used_found}
use Rattle.vx_placing.proofs.placing.go_on.Goals as goal

pub wait-requires-clause-left : goal.wait-requires-clause-left
wait-requires-clause-left g c = none_used c.args.setting.now.program.now (g.S.Space.sets c.args.space.now) c.args.setting.now.heap.now c.args.setting.now.limit c.args.group c.attempts.result.now c.attempts.ensures c.requires.stands (c.in-None.ensures (g.S.Space.sets c.args.space.now)) c.requires.bound

pub go_on_in_part-requires-clause-used : goal.go_on_in_part-requires-clause-used
go_on_in_part-requires-clause-used g c = used_found c.args.setting.now.program.now (g.S.Space.sets c.args.space.now) c.args.setting.now.heap.now c.args.setting.now.limit c.args.group c.attempts.result.now c.in-Some.used c.attempts.ensures c.requires.stands (c.in-Some.ensures (g.S.Space.sets c.args.space.now))
