use Rattle.vx_cond.proofs.CondLaws.{IsCond-of}
use Rattle.vx_group_states.proofs.SettleLaws.{lifting_cond}
use Rattle.vx_value.specs.Slot.{slot_cmp}
use Rattle.vx_invoke.specs.Called.{call_of}
use Rattle.vx_invoke.specs.Calls.{call_cmp}
use Rattle.vx_invoke.proofs.Receivers.{calls_at, calls_scope, receiver_cond}
use Rattle.vx_invoke.proofs.instances.calls_inside.Goals as goal

pub restrict-requires-clause-valid : goal.restrict-requires-clause-valid
restrict-requires-clause-valid g c = receiver_cond _ c.args.group.now c.args.arguments c.operand_under.result.now c.requires.group c.requires.enough c.operand_under.ensures

pub map-requires-clause-valid : goal.map-requires-clause-valid
map-requires-clause-valid g c = IsCond-of slot_cmp _ _ c.in_ok-receivers.receivers c.in_ok-receivers.ensures.ok

pub returns-clause-cond : goal.returns-clause-cond
returns-clause-cond g c = lifting_cond call_cmp _ _ _ c.in_ok-calls.calls c.in_ok-calls.ensures.ok

pub returns-clause-scope : goal.returns-clause-scope
returns-clause-scope g c = calls_scope (g.S.Space.sets c.args.space.now) c.args.group.now c.args.arguments c.operand_under.result.now c.requires.group c.requires.enough c.operand_under.ensures _ _ (call_of c.args.site.now.program.now c.args.heap.now c.args.target.now) c.in_ok-receivers.receivers c.in_ok-calls.calls c.args.set c.requires.inside c.requires.known c.in_ok-receivers.ensures.extends c.in_ok-receivers.ensures.ok c.in_ok-calls.ensures.ok (g.met.S.Space.lawful c.restrict.new.space) c.in_ok-calls.ensures.scope

pub returns-clause-at : goal.returns-clause-at
returns-clause-at g c = calls_at (g.S.Space.sets c.args.space.now) c.args.group.now c.args.arguments c.operand_under.result.now c.requires.group c.requires.enough c.operand_under.ensures _ _ (call_of c.args.site.now.program.now c.args.heap.now c.args.target.now) c.in_ok-receivers.receivers c.in_ok-calls.calls c.args.set c.requires.inside c.requires.known c.in_ok-receivers.ensures.extends c.in_ok-receivers.ensures.ok c.in_ok-calls.ensures.ok (λ slot call h. h)
