use Rattle.std.proofs.Common.{◌≤◌, arith, length}
use Rattle.std.proofs.lemmas.Result.{IfOk-weaker}
use Rattle.vx_cond.proofs.CondLaws.{IsCond-of}
use Rattle.vx_heap.proofs.Written.{init_inside, init_is_cond, restricted_scope}
use Rattle.vx_value.specs.Slot.{init_state_cmp}
use Rattle.vx_ready.proofs.States.{states_beyond, states_there}
use Rattle.vx_ready.proofs.initialising.states_inside.Goals as goal

pub returns-then-class-len-clause-cond : goal.returns-then-class-len-clause-cond
returns-then-class-len-clause-cond g c = IsCond-of init_state_cmp _ _ c.in_ok-done.done c.in_ok-done.ensures.ok

pub returns-then-class-len-clause-at : goal.returns-then-class-len-clause-at
returns-then-class-len-clause-at g c =
    let beyond : length c.args.program.now.classes ≤ c.args.class.0 = omega arith in
    states_beyond c.args.program.now _ c.args.heap.now c.args.class.0 c.args.path c.in_ok-done.done c.requires.program beyond c.in_ok-done.ensures.ok

pub restrict-requires-clause-valid : goal.restrict-requires-clause-valid
restrict-requires-clause-valid g c = init_is_cond _ c.args.heap.now c.args.class.0 c.init_state.result.now c.requires.heap (omega arith) c.init_state.ensures

pub returns-clause-cond : goal.returns-clause-cond
returns-clause-cond g c =
    IfOk-weaker c.restrict.result _ _ (λ r' h'. IsCond-of init_state_cmp _ _ r' h')
    c.restrict.ensures.ok

pub returns-clause-at : goal.returns-clause-at
returns-clause-at g c =
    IfOk-weaker c.restrict.result _ _ (λ r' h'. states_there _ _ c.args.heap.now c.args.class.0 c.args.path c.init_state.result.now r' c.requires.heap (omega arith) c.init_state.ensures c.requires.inside h')
    c.restrict.ensures.ok

pub returns-clause-scope : goal.returns-clause-scope
returns-clause-scope g c =
    IfOk-weaker c.restrict.result _ _ (λ r' h'. restricted_scope init_state_cmp (g.met.S.Space.lawful c.restrict.new.space) c.restrict.ensures.extends c.init_state.result.now r' c.args.path (init_is_cond _ c.args.heap.now c.args.class.0 c.init_state.result.now c.requires.heap (omega arith) c.init_state.ensures) c.requires.known (init_inside _ c.args.heap.now c.args.class.0 c.init_state.result.now c.args.path c.requires.heap (omega arith) c.init_state.ensures c.requires.inside) h')
    c.restrict.ensures.ok
