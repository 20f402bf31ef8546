use Rattle.vx_standing.proofs.Keeping.{state_known}
use Rattle.vx_turns.proofs.Tended.{IsTended-trans, state_nodes, swept_tree, tended_compacted, tended_swept}
use Rattle.vx_turns.proofs.upkeep.forget_sets.Goals as goal

pub drop_callers-requires : goal.drop_callers-requires
drop_callers-requires g c = state_nodes c.requires.0 (g.S.Space.sets c.args.space.now) c.args.state.now.heap.allowed c.args.state.now c.requires.1

pub compact-requires : goal.compact-requires
compact-requires g c =
    let sets = g.S.Space.sets c.args.space.now in
    let allowed = c.args.state.now.heap.allowed in
    let t = tended_swept c.requires.0 sets allowed c.args.state.now c.drop_callers.new.state c.requires.1 c.in_ok-drop_callers.ensures in
    state_known c.requires.0 sets allowed c.drop_callers.new.state (t.is_state c.requires.0 allowed c.requires.1)
    (swept_tree c.requires.0 sets allowed c.args.state.now c.drop_callers.new.state c.requires.1 c.in_ok-drop_callers.ensures)

pub returns-clause-ok : goal.returns-clause-ok
returns-clause-ok g c =
    let old = g.S.Space.sets c.args.space.now in
    let new = g.S.Space.sets c.compact.new.space in
    let allowed = c.args.state.now.heap.allowed in
    let mid = c.drop_callers.new.state in
    let t = tended_swept c.requires.0 old allowed c.args.state.now mid c.requires.1 c.in_ok-drop_callers.ensures in
    IsTended-trans old old new c.args.state.now mid mid t (tended_compacted c.requires.0 old new allowed mid (t.is_state c.requires.0 allowed c.requires.1) c.in_ok-upkeep.ensures.compacted)
