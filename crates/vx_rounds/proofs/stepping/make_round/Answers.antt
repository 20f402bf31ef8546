use Rattle.std.proofs.Common.{ap, ◌∙◌}
use Rattle.vx_space.proofs.Spaces.{Extends-trans}
use Rattle.vx_standing.specs.State.{StateView}
use Rattle.vx_turns.proofs.Closing.{rounds_small}
use Rattle.vx_placing.proofs.Going.{IsVacant-inside}
use Rattle.vx_turns.proofs.Opening.{begun_underway, begun_unwritten, begun_vacant, chosen_is_group, may_spend, spent_count, spent_may}
use Rattle.vx_placing.proofs.Putting.{IsUnderway-extends}
use Rattle.vx_turns.proofs.Whole.{IsRound-closed, IsTurn-made}
use Rattle.vx_rounds.proofs.stepping.make_round.Goals as goal

pub spend-requires-clause-group : goal.spend-requires-clause-group
spend-requires-clause-group g c = chosen_is_group c.args.program.now _ c.args.state.now.heap.allowed c.args.state.now c.begin_round-begun.new.state c.args.which c.begin_round-begun.result.0 c.begin_round-begun.result.1 c.requires.state c.begin_round-begun.ensures

pub spend-requires-clause-below : goal.spend-requires-clause-below
spend-requires-clause-below g c = may_spend c.args.program.now _ c.args.state.now.heap.allowed c.args.state.now c.begin_round-begun.new.state c.args.which c.begin_round-begun.result.0 c.begin_round-begun.result.1 c.requires.state c.begin_round-begun.ensures

pub make-requires : goal.make-requires
make-requires g c =
    let h = c.requires.state in
    let b = c.begin_round-begun.ensures in
    let x = c.in_ok-spent.ensures.extends in
    let u = begun_underway c.args.program.now _ c.args.state.now.heap.allowed c.args.state.now c.begin_round-begun.new.state c.args.which c.begin_round-begun.result.0 c.begin_round-begun.result.1 h b in
    let n = begun_vacant c.args.program.now x c.args.state.now.heap.allowed c.args.state.now c.begin_round-begun.new.state c.args.which c.begin_round-begun.result.0 c.begin_round-begun.result.1 c.in_ok-spent.spent c.in_ok-spent.attempts h b c.in_ok-spent.ensures.spent in
    let is_heap = ap (λ (x : StateView g.row.S.Denot g.row.S-Id.Denot). x.heap) (c.state.view_is ∙ b.state) in
    let is_limit = ap (λ (x : StateView g.row.S.Denot g.row.S-Id.Denot). x.limit) (c.state.view_is ∙ b.state) in
    record {
      given = rw (is_heap, b.callers)
          (spent_may c.args.program.now x c.args.state.now.heap.allowed c.args.state.now c.begin_round-begun.new.state c.args.which c.begin_round-begun.result.0 c.begin_round-begun.result.1 c.in_ok-spent.spent c.in_ok-spent.attempts h b c.in_ok-spent.ensures.spent);
      underway = rw (is_heap, is_limit)
          (IsUnderway-extends c.args.program.now x c.args.state.now.heap h.is_heap c.args.state.now.limit c.begin_round-begun.result.0 u);
      counted = rw is_limit
          (spent_count c.args.program.now x c.args.state.now.heap.allowed c.args.state.now c.begin_round-begun.new.state c.args.which c.begin_round-begun.result.0 c.begin_round-begun.result.1 c.in_ok-spent.spent c.in_ok-spent.attempts h b c.in_ok-spent.ensures.spent);
      vacant = IsVacant-inside c.args.program.now x c.args.state.now.heap h.is_heap c.args.state.now.limit c.begin_round-begun.result.0 _ _ u (λ d t. t) n;
      unwritten = begun_unwritten c.args.state.now c.begin_round-begun.new.state c.args.which c.begin_round-begun.result.0 c.begin_round-begun.result.1 _ _ b;
    }

pub returns-in_err-make-clause-extends : goal.returns-in_err-make-clause-extends
returns-in_err-make-clause-extends g c = Extends-trans c.in_ok-spent.ensures.extends c.make.ensures.extends

pub end_round-requires : goal.end_round-requires
end_round-requires g c =
    rw (ap (λ (x : StateView g.row.S.Denot g.row.S-Id.Denot). x.rounds) (c.state.view_is ∙ c.begin_round-begun.ensures.state))
    (rounds_small c.args.program.now (g.S.Space.sets c.args.space.now) c.args.state.now.heap.allowed c.args.state.now (g.met.S.Space.lawful c.args.space.now) c.requires.state)

pub returns-in_err-end_round-clause-extends : goal.returns-in_err-end_round-clause-extends
returns-in_err-end_round-clause-extends g c = Extends-trans c.in_ok-spent.ensures.extends c.in_ok-make.ensures.extends

pub returns-clause-extends : goal.returns-clause-extends
returns-clause-extends g c = Extends-trans c.in_ok-spent.ensures.extends c.in_ok-make.ensures.extends

pub returns-clause-ok : goal.returns-clause-ok
returns-clause-ok g c =
    let b = c.begin_round-begun.ensures in
    let t = IsTurn-made c.args.program.now c.args.state.now.heap.allowed c.args.state.now c.begin_round-begun.new.state c.args.which c.begin_round-begun.result.0 c.begin_round-begun.result.1 c.in_ok-spent.spent c.in_ok-spent.attempts c.state.inside.heap c.make.new.heap c.state.inside.limit c.make.new.round c.requires.state b c.in_ok-spent.ensures.extends c.in_ok-spent.ensures.spent c.in_ok-make.ensures.extends
    (ap (λ (x : StateView g.row.S.Denot g.row.S-Id.Denot). x.heap) (c.state.view_is ∙ b.state)) (ap (λ (x : StateView g.row.S.Denot g.row.S-Id.Denot). x.limit) (c.state.view_is ∙ b.state)) c.in_ok-make.ensures.made in (
      c.begin_round-begun.result.1,
      b.chosen,
      IsRound-closed c.args.program.now (g.met.S.Space.lawful c.args.space.now) c.args.state.now.heap.allowed c.args.state.now c.begin_round-begun.new.state _ c.end_round.new.state c.args.which c.begin_round-begun.result.0 c.begin_round-begun.result.1 c.in_ok-spent.spent c.in_ok-spent.attempts c.make.new.heap c.make.new.round t
          (ap (λ (x : StateView g.row.S.Denot g.row.S-Id.Denot). record x { heap = c.make.new.heap }) c.state.view_is) c.in_ok-end_round.ensures.ok,
    )
