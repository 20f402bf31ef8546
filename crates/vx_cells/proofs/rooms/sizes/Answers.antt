use Rattle.std.proofs.Common.{◌∙◌, arith, sym}
use Rattle.vx_value.specs.Slot.{slot_cmp}
use Rattle.vx_cond.proofs.CondLaws.{IsCond-extends}
use Rattle.vx_cond.proofs.RowSteps.{IsRow-get}
use Rattle.vx_cond.proofs.SideLaws.{IsRow-scope_known}
use Rattle.vx_group_states.proofs.Fitting.{IsSized-start, IsSized-step}
use Rattle.vx_cells.proofs.Lowest.{lowest_sized}
use Rattle.vx_cells.proofs.rooms.sizes.Goals as goal

pub one-requires : goal.one-requires
one-requires g c = rw c.scope.ensures (IsRow-scope_known slot_cmp _ c.args.stack.now c.requires.row)

pub loop-i-init : goal.loop-i-init
loop-i-init g c = IsSized-start _ c.args.stack.now c.args.value _ _ c.scope.ensures c.in_ok-total.ensures.scope c.in_ok-total.ensures.ok

pub zip-requires-clause-first : goal.zip-requires-clause-first
zip-requires-clause-first g c = c.loop-i.invariant.is_cond

pub zip-requires-clause-second : goal.zip-requires-clause-second
zip-requires-clause-second g c = IsCond-extends slot_cmp c.loop-i.invariant.extends c.get.result.now (IsRow-get slot_cmp _ c.args.stack.now c.loop-i.i c.get.result.now c.requires.row c.get.ensures).0

pub zip-requires-clause-scopes : goal.zip-requires-clause-scopes
zip-requires-clause-scopes g c = c.loop-i.invariant.scope ∙ sym (IsRow-get slot_cmp _ c.args.stack.now c.loop-i.i c.get.result.now c.requires.row c.get.ensures).1

pub loop-i-preserved : goal.loop-i-preserved
loop-i-preserved g c = IsSized-step _ c.args.stack.now c.args.value c.loop-i.i c.get.result.now c.loop-i.total _ (λ n s r h. h) c.requires.row c.requires.few (omega (arith, c.requires.value)) c.get.ensures c.loop-i.invariant c.in_ok-total-2.ensures.extends c.in_ok-total-2.ensures.ok c.in_ok-total-2.ensures.scope

pub returns-clause-cond : goal.returns-clause-cond
returns-clause-cond g c = c.loop-i.invariant.is_cond

pub returns-clause-scope : goal.returns-clause-scope
returns-clause-scope g c = c.loop-i.invariant.scope

pub returns-clause-at : goal.returns-clause-at
returns-clause-at g c = lowest_sized c.args.stack.now c.args.value c.loop-i.i c.args.count c.loop-i.total c.loop-i.invariant c.loop-i-test.false c.loop-i.auto.i-end
