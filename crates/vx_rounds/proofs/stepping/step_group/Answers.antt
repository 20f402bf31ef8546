use Rattle.std.proofs.Common.{sym, ◌∙◌}
use Rattle.vx_standing.proofs.Keeping.{state_known}
use Rattle.vx_turns.proofs.Tended.{IsRound-swept, IsRoundAt-tended, state_nodes, swept_tree, tended_compacted, tended_state, tended_swept}
use Rattle.vx_rounds.proofs.stepping.step_group.Goals as goal

pub compact-requires : goal.compact-requires
compact-requires g c = state_known c.args.program.now (g.S.Space.sets c.args.space.now) c.args.state.now.heap.allowed c.args.state.now c.requires.state c.requires.tree

pub make_round-requires-clause-state : goal.make_round-requires-clause-state
make_round-requires-clause-state g c =
    let p = c.args.program.now in
    let old = g.S.Space.sets c.args.space.now in
    let compacted = g.S.Space.sets c.compact.new.space in
    let st = c.args.state.now in
    tended_state p old compacted st st c.requires.state (tended_compacted p old compacted st.heap.allowed st c.requires.state c.in_ok-compact.ensures.compacted)

pub sweep-requires : goal.sweep-requires
sweep-requires g c = state_nodes c.args.program.now (g.S.Space.sets c.make_round.new.space) c.args.state.now.heap.allowed c.make_round.new.state c.in_ok-make_round.ensures.ok.2.is_state

pub returns-clause-ok : goal.returns-clause-ok
returns-clause-ok g c =
    let p = c.args.program.now in
    let old = g.S.Space.sets c.args.space.now in
    let compacted = g.S.Space.sets c.compact.new.space in
    let new = g.S.Space.sets c.make_round.new.space in
    let st = c.args.state.now in
    let made = c.make_round.new.state in
    let t = tended_compacted p old compacted st.heap.allowed st c.requires.state c.in_ok-compact.ensures.compacted in
    let round = IsRoundAt-tended p old compacted new st st made c.args.which c.requires.state t c.in_ok-make_round.ensures.ok in
    (round.0, round.1, IsRound-swept p old new st.heap.allowed st made c.sweep.new.state round.0 round.2 (tended_swept p new st.heap.allowed made c.sweep.new.state round.2.is_state c.in_ok-sweep.ensures.ok))

pub returns-clause-tree : goal.returns-clause-tree
returns-clause-tree g c = swept_tree c.args.program.now (g.S.Space.sets c.make_round.new.space) c.args.state.now.heap.allowed c.make_round.new.state c.sweep.new.state c.in_ok-make_round.ensures.ok.2.is_state c.in_ok-sweep.ensures.ok

pub returns-clause-based : goal.returns-clause-based
returns-clause-based g c q =
    let e = c.in_ok-make_round.ensures.extends in
    rw e.base (c.in_ok-compact.ensures.based (sym e.counts ∙ q))
