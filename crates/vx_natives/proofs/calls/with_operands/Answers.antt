use Rattle.std.proofs.Common.{◌≡◌, ◌+◌, ◌∙◌, ◌∷◌, suc, ap, arith, drop, drop-cons, get_or, sym}
use Rattle.vx_cond.proofs.CondLaws.{IsCond-extends}
use Rattle.vx_cond.proofs.RowSteps.{IsRow-get}
use Rattle.vx_cond.proofs.SideLaws.{IsRow-scope_known}
use Rattle.vx_desc.specs.declared.java_type.Base.TheVariants.{Bool}
use Rattle.vx_desc.specs.declared.java_type.JavaType.{JavaType}
use Rattle.vx_value.specs.Slot.{slot_cmp}
use Rattle.vx_natives.proofs.Arguing.{IsArguing-start, IsArguing-step, arguing_done}
use Rattle.vx_natives.proofs.calls.with_operands.Goals as goal

-- what a place behind the last one would read
abbrev no_type : JavaType
no_type = record { base = Bool; dimensions = 0; from = 0; end = 0 }

pub loop-i-init : goal.loop-i-init
loop-i-init g c = IsArguing-start c.args.program.now c.args.heap.now c.args.descriptor.now c.args.types.now c.args.stack.now c.args.start c.requires.start c.requires.scope

pub with_operand-requires-clause-calls : goal.with_operand-requires-clause-calls
with_operand-requires-clause-calls g c = c.loop-i.invariant.is_cond

pub with_operand-requires-clause-operand : goal.with_operand-requires-clause-operand
with_operand-requires-clause-operand g c = IsCond-extends slot_cmp c.loop-i.invariant.extends c.get-operand.result.now (IsRow-get slot_cmp _ c.args.stack.now _ c.get-operand.result.now c.requires.row c.get-operand.ensures).0

pub with_operand-requires-clause-scopes : goal.with_operand-requires-clause-scopes
with_operand-requires-clause-scopes g c = c.loop-i.invariant.scope ∙ sym (IsRow-get slot_cmp _ c.args.stack.now _ c.get-operand.result.now c.requires.row c.get-operand.ensures).1

pub loop-i-preserved : goal.loop-i-preserved
loop-i-preserved g c =
    let types = c.args.types.now in
    let i = c.loop-i.i in
    let t = get_or types i no_type in
    let one : suc i ≡ i + 1 = omega arith in
    let first : drop i types ≡ t ∷ drop (i + 1) types = drop-cons types i no_type c.loop-i-test.true ∙ ap (λ k. t ∷ drop k types) one in
    IsArguing-step c.args.program.now c.args.heap.now c.args.descriptor.now types c.args.stack.now c.args.start i t c.get-operand.result.now c.loop-i.calls _ c.requires.row (IsRow-scope_known slot_cmp _ c.args.stack.now c.requires.row) first (rw c.len.ensures at c.get-operand.ensures) c.loop-i.invariant c.in_ok-calls.ensures.extends c.in_ok-calls.ensures.cond c.in_ok-calls.ensures.scope c.in_ok-calls.ensures.at

pub returns-clause-cond : goal.returns-clause-cond
returns-clause-cond g c = c.loop-i.invariant.is_cond

pub returns-clause-scope : goal.returns-clause-scope
returns-clause-scope g c = c.loop-i.invariant.scope

pub returns-clause-extends : goal.returns-clause-extends
returns-clause-extends g c = c.loop-i.invariant.extends

pub returns-clause-at : goal.returns-clause-at
returns-clause-at g c = arguing_done c.args.program.now c.args.heap.now c.args.descriptor.now c.args.types.now c.args.stack.now c.args.start c.loop-i.i c.loop-i.calls c.loop-i-test.false c.loop-i.invariant
