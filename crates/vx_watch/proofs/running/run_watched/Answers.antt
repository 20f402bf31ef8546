use Rattle.std.proofs.Common.{arith}
use Rattle.vx_engine.proofs.Rounds.{keep_on, made_falls, none_there, some_there}
use Rattle.vx_lockstep.proofs.Underway.{ended, is_last, reported, started}
use Rattle.vx_standing.proofs.Keeping.{findings_known}
use Rattle.vx_value.specs.Ends.{compare_ends}
use Rattle.vx_watch.proofs.Heard.{watched_none, watching_none, watching_on, watching_over}
use Rattle.vx_watch.proofs.running.run_watched.Goals as goal

pub returns-in_err-of-clause-told : goal.returns-in_err-of-clause-told
returns-in_err-of-clause-told g c = watched_none (g.E.Sink.seen c.args.err.now)

pub returns-in_err-state-clause-told : goal.returns-in_err-state-clause-told
returns-in_err-state-clause-told g c = watched_none (g.E.Sink.seen c.args.err.now)

pub rounds-init : goal.rounds-init
rounds-init g c = (
  started c.args.program.now (g.S.Space.sets c.args.space.now) (g.S.Space.sets c.start.new.space) c.args.allowed c.args.limit _ c.in_ok-state.state c.requires.known c.in_ok-state.ensures.extends c.in_ok-state.ensures.ok,
  watching_none _ c.in_ok-state.state c.in_ok-state.ensures.ok.rounds,
)

pub make_rounds-requires : goal.make_rounds-requires
make_rounds-requires g c = c.rounds.invariant.0.is_state

pub tell-requires : goal.tell-requires
tell-requires g c =
    let made = c.in_ok-make_rounds.ensures in
    let on = keep_on c.args.program.now _ (g.S.Space.sets c.rounds.space) c.rounds.state (g.S.Space.sets c.args.space.now).options ((g.S.Space.sets c.args.space.now).test c.args.allowed) c.args.limit c.rounds.invariant.0 made.made (g.S.Space.sets c.make_rounds.new.space) c.make_rounds.new.state made.rounds in
    findings_known compare_ends (g.S.Space.sets c.make_rounds.new.space) c.make_rounds.new.state.ends on.is_state.ends

pub rounds-smaller-in-Continue-branch-4 : goal.rounds-smaller-in-Continue-branch-4
rounds-smaller-in-Continue-branch-4 g c =
    made_falls c.args.program.now _ _ (g.S.Space.sets c.rounds.space) (g.S.Space.sets c.make_rounds.new.space) c.rounds.state c.make_rounds.new.state c.rounds.invariant.0.is_state (some_there c.groups.result.now c.rounds.state.groups c.is_empty.result c.rounds-test.true c.is_empty.ensures c.groups.ensures) (omega (arith)) c.in_ok-make_rounds.ensures

pub rounds-preserved-in-Continue-branch-4 : goal.rounds-preserved-in-Continue-branch-4
rounds-preserved-in-Continue-branch-4 g c =
    let made = c.in_ok-make_rounds.ensures in
    let next = g.S.Space.sets c.make_rounds.new.space in (
      keep_on c.args.program.now _ (g.S.Space.sets c.rounds.space) c.rounds.state (g.S.Space.sets c.args.space.now).options ((g.S.Space.sets c.args.space.now).test c.args.allowed) c.args.limit c.rounds.invariant.0 made.made next c.make_rounds.new.state made.rounds,
      watching_on c.args.program.now _ (g.E.Sink.seen c.args.err.now) (g.E.Sink.seen c.rounds.err) (g.E.Sink.seen c.tell.new.err) (g.S.Space.sets c.rounds.space) next c.in_ok-of.of c.rounds.state c.make_rounds.new.state
          (some_there c.groups.result.now c.rounds.state.groups c.is_empty.result c.rounds-test.true c.is_empty.ensures c.groups.ensures)
          (some_there c.groups-in-rounds.result.now c.make_rounds.new.state.groups c.is_empty-in-rounds.result c.if-not-is_empty.true c.is_empty-in-rounds.ensures c.groups-in-rounds.ensures)
          c.rounds.invariant.1 made c.in_ok-tell.ensures.ok,
    )

pub rounds-smaller : goal.rounds-smaller
rounds-smaller g c =
    made_falls c.args.program.now _ _ (g.S.Space.sets c.rounds.space) (g.S.Space.sets c.make_rounds.new.space) c.rounds.state c.make_rounds.new.state c.rounds.invariant.0.is_state (some_there c.groups.result.now c.rounds.state.groups c.is_empty.result c.rounds-test.true c.is_empty.ensures c.groups.ensures) (omega (arith)) c.in_ok-make_rounds.ensures

pub rounds-preserved : goal.rounds-preserved
rounds-preserved g c =
    let made = c.in_ok-make_rounds.ensures in (
      keep_on c.args.program.now _ (g.S.Space.sets c.rounds.space) c.rounds.state (g.S.Space.sets c.args.space.now).options ((g.S.Space.sets c.args.space.now).test c.args.allowed) c.args.limit c.rounds.invariant.0 made.made (g.S.Space.sets c.make_rounds.new.space) c.make_rounds.new.state made.rounds,
      watching_over (g.E.Sink.seen c.args.err.now) (g.E.Sink.seen c.rounds.err) c.rounds.state c.make_rounds.new.state c.rounds.invariant.1
          (none_there c.groups-in-rounds.result.now c.make_rounds.new.state.groups c.is_empty-in-rounds.result c.if-not-is_empty.false c.is_empty-in-rounds.ensures c.groups-in-rounds.ensures),
    )

pub returns-clause-findings : goal.returns-clause-findings
returns-clause-findings g c =
    ended c.args.program.now (g.S.Space.sets c.rounds.space) (g.S.Space.sets c.args.space.now).options ((g.S.Space.sets c.args.space.now).test c.args.allowed) c.args.limit _ c.rounds.state _ c.rounds.invariant.0
    (is_last c.rounds.state _ c.groups.result.now c.is_empty.result c.rounds-test.false c.is_empty.ensures c.groups.ensures c.findings_of.ensures)

pub returns-clause-lockstep : goal.returns-clause-lockstep
returns-clause-lockstep g c =
    reported c.args.program.now (g.S.Space.sets c.rounds.space) (g.S.Space.sets c.args.space.now).options ((g.S.Space.sets c.args.space.now).test c.args.allowed) c.args.limit _ c.rounds.state _ (g.met.S.Space.lawful c.rounds.space) c.rounds.invariant.0
    (is_last c.rounds.state _ c.groups.result.now c.is_empty.result c.rounds-test.false c.is_empty.ensures c.groups.ensures c.findings_of.ensures)

pub returns-clause-options : goal.returns-clause-options
returns-clause-options g c = c.rounds.invariant.0.all_options
