use Rattle.std.proofs.Common.{arith, refl, sym, subst, length}
use Rattle.vx_engine.specs.Rounds.{none, next}
use Rattle.vx_lockstep.proofs.Underway.{own_allowed}
use Rattle.vx_standing.specs.Rounds.{IsRoundAt}
use Rattle.vx_standing.specs.State.{StateView}
use Rattle.vx_engine.proofs.running.make_rounds.Goals as goal

pub rounds-init : goal.rounds-init
rounds-init g c = (omega (arith), c.requires, none)

pub rounds-preserved : goal.rounds-preserved
rounds-preserved g c =
    let round = subst (λ (st : StateView g.row.S.Denot g.row.S-Id.Denot). IsRoundAt c.args.program.now (g.S.Space.sets c.rounds.space) (g.S.Space.sets c.next_round.new.space) st c.next_round.new.state c.in_ok-which.which) c.next_place.ensures.same c.in_ok-next_round.ensures in (
      omega (arith, c.rounds-test),
      own_allowed c.args.program.now (g.S.Space.sets c.next_round.new.space) c.rounds.state.heap.allowed c.next_round.new.state round.2.is_state,
      next c.rounds.made (g.S.Space.sets c.rounds.space) (g.S.Space.sets c.next_round.new.space) c.rounds.state c.next_round.new.state c.rounds.invariant.2
          (record { lawful = g.met.S.Space.lawful c.rounds.space; still_lawful = g.met.S.Space.lawful c.next_round.new.space; place = c.in_ok-which.which; group = round.0; there = round.1; first = c.in_ok-which.ensures.first; round = round.2 }),
    )
