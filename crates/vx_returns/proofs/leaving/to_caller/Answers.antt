use Rattle.std.proofs.Common.{◌≡◌, ap, arith, length, refl}
use Rattle.std.proofs.lemmas.Result.{IfOk-weaker}
use Rattle.vx_cond.proofs.CondLaws.{IsCond-extends}
use Rattle.vx_group.proofs.GroupLaws.{IsGroup-one_scope, IsGroupIn-group}
use Rattle.vx_space.proofs.Spaces.{Extends-trans}
use Rattle.vx_value.specs.Slot.{slot_cmp}
use Rattle.vx_returns.proofs.LeaveLaws.{IsGroup-past, left_to_caller, top_handed, top_value, value_to_caller}
use Rattle.vx_returns.proofs.leaving.to_caller.Goals as goal

pub moved_past-resumed-requires-clause-bounded : goal.moved_past-resumed-requires-clause-bounded
moved_past-resumed-requires-clause-bounded g c = c.requires.bounded

pub moved_past-resumed-requires-clause-scope : goal.moved_past-resumed-requires-clause-scope
moved_past-resumed-requires-clause-scope g c = IsGroup-one_scope _ c.in_ok-caller.caller (IsGroupIn-group _ _ c.in_ok-caller.caller c.in_ok-caller.ensures.uncovered.is_group)

pub returns-then-not-returns-clause-gives : goal.returns-then-not-returns-clause-gives
returns-then-not-returns-clause-gives g c = λ heap v s. rw (c.if-not-returns.true, c.in_ok-caller.ensures.callers, c.in_ok-outcomes.ensures.one, c.moved_past-resumed.ensures) (left_to_caller c.args.site.now heap c.args.callers.now c.args.group c.in_ok-caller.caller c.in_ok-caller.frame v s c.requires.kind c.in_ok-caller.ensures.extends (rw c.in_ok-caller.ensures.callers at c.in_ok-caller.ensures.uncovered))

pub unreachable-requires : goal.unreachable-requires
unreachable-requires g c =
    let none : length c.args.group.top.stack.conds ≡ 0 = ap length (rw c.in_ok-caller.ensures.uncovered.top at (c.in_default.ensures.none.0 refl)) in
    omega (arith, none, c.requires.value c.if-not-returns.false)

pub receive-requires-clause-group : goal.receive-requires-clause-group
receive-requires-clause-group g c = rw c.moved_past-resumed.ensures (IsGroup-past c.args.site.now.program.now _ c.in_ok-caller.caller (IsGroupIn-group _ _ c.in_ok-caller.caller c.in_ok-caller.ensures.uncovered.is_group))

pub receive-requires-clause-value : goal.receive-requires-clause-value
receive-requires-clause-value g c = IsCond-extends slot_cmp c.in_ok-caller.ensures.extends c.in-Some.value (top_value _ c.args.group c.pop.new.self c.in-Some.value (IsGroupIn-group _ _ c.args.group c.requires.group) (rw c.in_ok-caller.ensures.uncovered.top at c.in-Some.ensures.some)).0

pub receive-requires-clause-scope : goal.receive-requires-clause-scope
receive-requires-clause-scope g c = rw (c.moved_past-resumed.ensures, c.in_ok-caller.ensures.uncovered.attempts) (top_value _ c.args.group c.pop.new.self c.in-Some.value (IsGroupIn-group _ _ c.args.group c.requires.group) (rw c.in_ok-caller.ensures.uncovered.top at c.in-Some.ensures.some)).1

pub returns-clause-extends : goal.returns-clause-extends
returns-clause-extends g c = Extends-trans c.in_ok-caller.ensures.extends c.receive.ensures.extends

pub returns-clause-gives : goal.returns-clause-gives
returns-clause-gives g c =
    let popped = rw c.in_ok-caller.ensures.uncovered.top at c.in-Some.ensures.some in
    let valid = top_value (g.S.Space.sets c.args.space.now) c.args.group c.pop.new.self c.in-Some.value (IsGroupIn-group _ _ c.args.group c.requires.group) popped in
    let uncovered = rw c.in_ok-caller.ensures.callers at c.in_ok-caller.ensures.uncovered in
    IfOk-weaker c.receive.result _ _ (λ r h heap v s. rw (c.if-not-returns.false, c.in_ok-caller.ensures.callers) (value_to_caller c.args.site.now heap c.args.callers.now c.args.group c.in_ok-caller.caller c.in_ok-caller.frame c.pop.new.self c.in-Some.value r.items.items v s c.requires.kind c.in_ok-caller.ensures.extends uncovered c.in-Some.ensures.some valid.0 ((rw c.moved_past-resumed.ensures at h) heap (top_handed c.args.site.now.program.now heap c.args.callers.now c.args.group c.pop.new.self c.in-Some.value v s c.in_ok-caller.ensures.extends popped valid.0 valid.1)))) c.receive.ensures.gives
