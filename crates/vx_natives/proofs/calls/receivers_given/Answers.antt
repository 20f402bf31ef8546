use Rattle.std.proofs.Common.{◌+◌, ◌≤◌, ◌∙◌, arith, length, sym}
use Rattle.vx_cond.proofs.CondLaws.{IsCond-of}
use Rattle.vx_cond.proofs.SideLaws.{IsRow-scope_known}
use Rattle.vx_value.specs.Slot.{slot_cmp}
use Rattle.vx_natives.specs.CallOrder.{call_cmp}
use Rattle.vx_natives.specs.declared.call.Call.TheVariants.{Nothing}
use Rattle.vx_natives.proofs.Arguing.{same_call}
use Rattle.vx_natives.proofs.calls.receivers_given.Goals as goal

pub one-requires : goal.one-requires
one-requires g c = rw c.scope.ensures (IsRow-scope_known slot_cmp _ c.args.stack.now c.requires.row)

pub returns-then-is_static-clause-cond : goal.returns-then-is_static-clause-cond
returns-then-is_static-clause-cond g c = IsCond-of call_cmp _ _ c.in_ok-none.none c.in_ok-none.ensures.ok

pub returns-then-is_static-clause-scope : goal.returns-then-is_static-clause-scope
returns-then-is_static-clause-scope g c = c.in_ok-none.ensures.scope ∙ c.scope.ensures

pub returns-then-is_static-clause-at : goal.returns-then-is_static-clause-at
returns-then-is_static-clause-at g c = λ d t.
    let static = sym c.is_static.ensures ∙ c.if-is_static.true in
    rw static (same_call _ c.args.stack.now.scope Nothing c.in_ok-none.none (rw c.scope.ensures at c.in_ok-none.ensures.ok) d t)

pub receiver_given-requires-clause-enough : goal.receiver_given-requires-clause-enough
receiver_given-requires-clause-enough g c =
    let static = sym c.is_static.ensures ∙ c.if-is_static.false in
    let enough : c.args.count + 1 ≤ length c.args.stack.now.conds = rw static at c.requires.enough in
    omega (arith, enough)

pub returns-clause-at : goal.returns-clause-at
returns-clause-at g c =
    let static = sym c.is_static.ensures ∙ c.if-is_static.false in
    rw (static, ← c.class_of_method-class.ensures) c.in_ok-made.ensures.at
