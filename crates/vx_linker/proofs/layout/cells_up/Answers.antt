use Rattle.std.proofs.Common.{◌≡◌, Option, option_map, length, ap, subst, ◌∙◌, arith}
use Rattle.vx_list.specs.Places.{item_or}
use Rattle.vx_value.specs.declared.ids.ClassId.{ClassId}
use Rattle.vx_link.specs.Linked.{instance_fields}
use Rattle.vx_linker.proofs.Layouts.{Counts, counts_first, counts_none, counts_all, counts_step, count-at, few_instances}
use Rattle.vx_linker.proofs.layout.cells_up.Goals as goal

pub loop-step-init : goal.loop-step-init
loop-step-init c = counts_first c.args.program.now c.args.steps (option_map (λ k. k.0) c.args.class)

pub returns-in-None-clause-count : goal.returns-in-None-clause-count
returns-in-None-clause-count c =
    let P : Option ClassId → Type 0 = λ o. Counts c.args.program.now c.args.steps (option_map (λ k. k.0) c.args.class) c.loop-step.count c.loop-step._step (option_map (λ k. k.0) o) in
    counts_none c.args.program.now c.args.steps (option_map (λ k. k.0) c.args.class) c.loop-step.count c.loop-step._step (subst P c.in-None.is c.loop-step.invariant)

pub returns-in-None-clause-few : goal.returns-in-None-clause-few
returns-in-None-clause-few c = omega (arith, c.loop-step.invariant.few)

pub overflow_add-count : goal.overflow_add-count
overflow_add-count c =
    let number : c.number_at-count.result ≡ length (instance_fields c.args.program.now c.in-Some.class.0) =
    c.number_at-count.ensures ∙ ap (λ xs. item_or xs c.in-Some.class.0 0) c.requires.counts ∙ count-at c.args.program.now c.in-Some.class.0
    in
    omega (arith, number, few_instances c.args.program.now c.in-Some.class.0 c.requires.few, c.loop-step.invariant.few)

pub loop-step-preserved : goal.loop-step-preserved
loop-step-preserved c =
    let P : Option ClassId → Type 0 = λ o. Counts c.args.program.now c.args.steps (option_map (λ k. k.0) c.args.class) c.loop-step.count c.loop-step._step (option_map (λ k. k.0) o) in
    counts_step c.args.program.now c.args.steps (option_map (λ k. k.0) c.args.class) c.loop-step.count c.loop-step._step c.in-Some.class.0 c.number_at-count.result (option_map (λ k. k.0) c.superclass_of-next.result) c.requires.few
    (subst P c.in-Some.is c.loop-step.invariant)
    (omega arith)
    (c.number_at-count.ensures ∙ ap (λ xs. item_or xs c.in-Some.class.0 0) c.requires.counts ∙ count-at c.args.program.now c.in-Some.class.0)
    c.superclass_of-next.ensures

pub returns-clause-count : goal.returns-clause-count
returns-clause-count c = counts_all c.args.program.now c.args.steps (option_map (λ k. k.0) c.args.class) c.loop-step.count c.loop-step._step (option_map (λ k. k.0) c.loop-step.next) c.loop-step.invariant (omega arith)

pub returns-clause-few : goal.returns-clause-few
returns-clause-few c = omega (arith, c.loop-step.invariant.few)
