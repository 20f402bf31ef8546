use Rattle.std.proofs.Common.{◌∙◌, sym, arith}
use Rattle.std.proofs.Math.Nat.{min-le_left}
use Rattle.vx_value.specs.Slot.{slot_cmp}
use Rattle.vx_space.proofs.Spaces.{Extends-trans}
use Rattle.vx_cond.proofs.CondLaws.{IsCond-extends}
use Rattle.vx_cond.proofs.RowSteps.{IsRow-get}
use Rattle.vx_cond.proofs.SideLaws.{IsRow-scope_known}
use Rattle.vx_stack.proofs.CutLoops.{IsCutting-start, IsCutting-step, IsCutting-end}
use Rattle.vx_stack.proofs.cutting.cuts.Goals as goal

pub one-requires : goal.one-requires
one-requires g c = rw c.scope.ensures (IsRow-scope_known slot_cmp _ c.args.stack.now c.requires.row)

pub loop-i-init : goal.loop-i-init
loop-i-init g c = IsCutting-start _ c.args.stack.now _ _ _ _ c.first_cut.ensures c.scope.ensures c.in_ok-found.ensures.scope c.in_ok-found.ensures.ok

pub zip-requires-clause-first : goal.zip-requires-clause-first
zip-requires-clause-first g c = c.loop-i.invariant.is_cond

pub zip-requires-clause-second : goal.zip-requires-clause-second
zip-requires-clause-second g c = IsCond-extends slot_cmp c.loop-i.invariant.extends c.get.result.now (IsRow-get slot_cmp _ c.args.stack.now _ c.get.result.now c.requires.row c.get.ensures).0

pub zip-requires-clause-scopes : goal.zip-requires-clause-scopes
zip-requires-clause-scopes g c = c.loop-i.invariant.scope ∙ sym (IsRow-get slot_cmp _ c.args.stack.now _ c.get.result.now c.requires.row c.get.ensures).1

pub returns-in_err-found-2-clause-extends : goal.returns-in_err-found-2-clause-extends
returns-in_err-found-2-clause-extends g c = Extends-trans c.loop-i.invariant.extends c.zip.ensures.extends

pub loop-i-preserved : goal.loop-i-preserved
loop-i-preserved g c = IsCutting-step _ c.args.stack.now _ c.loop-i.i c.get.result.now c.loop-i.found _ (λ n s r h. h) c.requires.row (omega (arith, c.loop-i-test.true, c.min-i-end.ensures, c.len-depth.ensures, min-le_left c.len-depth.result c.reach.result)) (rw c.len-depth.ensures at c.get.ensures) c.loop-i.invariant c.in_ok-found-2.ensures.extends c.in_ok-found-2.ensures.ok c.in_ok-found-2.ensures.scope

pub returns-clause-extends : goal.returns-clause-extends
returns-clause-extends g c = c.loop-i.invariant.extends

pub returns-clause-cond : goal.returns-clause-cond
returns-clause-cond g c = c.loop-i.invariant.is_cond

pub returns-clause-scope : goal.returns-clause-scope
returns-clause-scope g c = c.loop-i.invariant.scope

pub returns-clause-at : goal.returns-clause-at
returns-clause-at g c = IsCutting-end c.args.stack.now c.args.form c.loop-i.i c.loop-i.found c.loop-i.invariant (rw (c.min-i-end.ensures, c.len-depth.ensures, c.reach.ensures) at c.loop-i-test.false)
