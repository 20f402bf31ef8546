use Rattle.std.proofs.Common.{arith}
use Rattle.vx_engine.proofs.Rounds.{keep_on, made_falls, some_there}
use Rattle.vx_lockstep.proofs.Underway.{ended, is_last, reported, started}
use Rattle.vx_engine.proofs.running.run_with.Goals as goal

pub rounds-init : goal.rounds-init
rounds-init g c = started c.args.program.now (g.S.Space.sets c.args.space.now) (g.S.Space.sets c.start.new.space) c.args.allowed c.args.limit _ c.in_ok-state.state c.requires.known c.in_ok-state.ensures.extends c.in_ok-state.ensures.ok

pub make_rounds-requires : goal.make_rounds-requires
make_rounds-requires g c = c.rounds.invariant.is_state

pub rounds-smaller : goal.rounds-smaller
rounds-smaller g c =
    made_falls c.args.program.now _ _ (g.S.Space.sets c.rounds.space) (g.S.Space.sets c.make_rounds.new.space) c.rounds.state c.make_rounds.new.state c.rounds.invariant.is_state (some_there c.groups.result.now c.rounds.state.groups c.is_empty.result c.rounds-test.true c.is_empty.ensures c.groups.ensures) (omega (arith)) c.in_ok-make_rounds.ensures

pub rounds-preserved : goal.rounds-preserved
rounds-preserved g c =
    let made = c.in_ok-make_rounds.ensures in
    keep_on c.args.program.now _ (g.S.Space.sets c.rounds.space) c.rounds.state (g.S.Space.sets c.args.space.now).options ((g.S.Space.sets c.args.space.now).test c.args.allowed) c.args.limit c.rounds.invariant made.made (g.S.Space.sets c.make_rounds.new.space) c.make_rounds.new.state made.rounds

pub returns-clause-findings : goal.returns-clause-findings
returns-clause-findings g c =
    ended c.args.program.now (g.S.Space.sets c.rounds.space) (g.S.Space.sets c.args.space.now).options ((g.S.Space.sets c.args.space.now).test c.args.allowed) c.args.limit _ c.rounds.state _ c.rounds.invariant
    (is_last c.rounds.state _ c.groups.result.now c.is_empty.result c.rounds-test.false c.is_empty.ensures c.groups.ensures c.findings_of.ensures)

pub returns-clause-lockstep : goal.returns-clause-lockstep
returns-clause-lockstep g c =
    reported c.args.program.now (g.S.Space.sets c.rounds.space) (g.S.Space.sets c.args.space.now).options ((g.S.Space.sets c.args.space.now).test c.args.allowed) c.args.limit _ c.rounds.state _ (g.met.S.Space.lawful c.rounds.space) c.rounds.invariant
    (is_last c.rounds.state _ c.groups.result.now c.is_empty.result c.rounds-test.false c.is_empty.ensures c.groups.ensures c.findings_of.ensures)

pub returns-clause-options : goal.returns-clause-options
returns-clause-options g c = c.rounds.invariant.all_options
