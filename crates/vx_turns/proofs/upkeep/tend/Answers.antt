use Rattle.std.proofs.lemmas.Result.{on_ok_weaker}
use Rattle.vx_turns.proofs.Tended.{state_nodes, tended_not, tended_swept}
use Rattle.vx_turns.proofs.upkeep.tend.Goals as goal

pub drop_callers-requires : goal.drop_callers-requires
drop_callers-requires g c = state_nodes c.requires.0 (g.S.Space.sets c.args.space.now) c.args.state.now.heap.allowed c.args.state.now c.requires.1

pub returns-then-is_sweep_due-clause-ok : goal.returns-then-is_sweep_due-clause-ok
returns-then-is_sweep_due-clause-ok g c =
    on_ok_weaker c.drop_callers.result
    (λ h. tended_swept c.requires.0 (g.S.Space.sets c.args.space.now) c.args.state.now.heap.allowed c.args.state.now c.drop_callers.new.state c.requires.1 h)
    c.drop_callers.ensures

pub returns-clause-ok : goal.returns-clause-ok
returns-clause-ok g c = tended_not c.requires.0 (g.S.Space.sets c.args.space.now) c.args.state.now.heap.allowed c.args.state.now c.requires.1
