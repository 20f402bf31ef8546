use Rattle.vx_turns.proofs.Tended.{IsRoundAt-tended, tended_place, tended_state}
use Rattle.vx_rounds.proofs.stepping.next_round.Goals as goal

pub tend-requires : goal.tend-requires
tend-requires g c = (c.args.program.now, c.requires.state)

pub make_round-requires-clause-state : goal.make_round-requires-clause-state
make_round-requires-clause-state g c = tended_state c.args.program.now (g.S.Space.sets c.args.space.now) (g.S.Space.sets c.tend.new.space) c.args.state.now c.tend.new.state c.requires.state c.in_ok-tend.ensures.ok

pub make_round-requires-clause-which : goal.make_round-requires-clause-which
make_round-requires-clause-which g c = tended_place (g.S.Space.sets c.args.space.now) (g.S.Space.sets c.tend.new.space) c.args.state.now c.tend.new.state c.args.which c.in_ok-tend.ensures.ok c.requires.which

pub returns : goal.returns
returns g c = IsRoundAt-tended c.args.program.now (g.S.Space.sets c.args.space.now) (g.S.Space.sets c.tend.new.space) (g.S.Space.sets c.make_round.new.space) c.args.state.now c.tend.new.state c.make_round.new.state c.args.which c.requires.state c.in_ok-tend.ensures.ok c.in_ok-make_round.ensures.ok
