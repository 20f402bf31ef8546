use Rattle.std.proofs.Common.{◌≤◌, ◌<◌, arith, length}
use Rattle.std.proofs.lemmas.Result.{IfOk-weaker}
use Rattle.vx_arrays.proofs.Fewer.{few-attempts}
use Rattle.vx_families.proofs.Given.{IsGiven-extends, IsGiven-texts, given_ready}
use Rattle.vx_java.specs.Arrays.{load_element}
use Rattle.vx_java.specs.declared.operation.Operation.TheVariants.{LoadElement}
use Rattle.vx_ready.proofs.Given.{IsRunning-given}
use Rattle.vx_space.proofs.Spaces.{Extends-trans}
use Rattle.vx_arrays.proofs.Loads.{few_to_load, load-attempts}
use Rattle.vx_arrays.proofs.loading.load_element.Goals as goal

pub returns-then-len-lt2-clause-ok : goal.returns-then-len-lt2-clause-ok
returns-then-len-lt2-clause-ok g c =
    IfOk-weaker c.illegal.result _ _ (λ r' h'. few-attempts c.args.site.now (LoadElement c.args.element) (λ h. load_element h c.args.element) c.args.heap.now c.args.group c.top_frame.result.now c.len.result 2 _ c.requires c.top_frame.ensures c.len.ensures (omega arith) (few_to_load c.args.element) (h' _))
    c.illegal.ensures

pub loaded-requires-clause-running : goal.loaded-requires-clause-running
loaded-requires-clause-running g c = IsRunning-given c.args.site.now (LoadElement c.args.element) _ c.args.heap.now c.args.group c.requires

pub loaded-requires-clause-operands : goal.loaded-requires-clause-operands
loaded-requires-clause-operands g c = rw (← c.top_frame.ensures, ← c.len.ensures) (omega arith)

pub loaded-requires-clause-few : goal.loaded-requires-clause-few
loaded-requires-clause-few g c = rw (← c.group.view_is) c.group.invariant.1

pub carry_out-requires-clause-ready : goal.carry_out-requires-clause-ready
carry_out-requires-clause-ready g c =
    let op = LoadElement c.args.element in
    let site = c.args.site.now in
    let start = g.S.Space.sets c.args.space.now in
    let after = c.loaded.new.heap in
    let enough : 2 ≤ length c.args.group.top.stack.conds = rw (← c.top_frame.ensures, ← c.len.ensures) (omega arith) in
    given_ready site op _ after c.args.group 2 c.in_ok-answers.answers (IsGiven-extends site op after c.args.group c.in_ok-answers.ensures.extends (IsGiven-texts site op start c.args.heap.now after c.args.group c.in_ok-answers.ensures.more c.requires)) (omega arith) enough (rw (← c.group.view_is) c.group.invariant.1) c.in_ok-answers.ensures.ok.is_cond c.in_ok-answers.ensures.ok.scope

pub carry_out-requires-clause-scope : goal.carry_out-requires-clause-scope
carry_out-requires-clause-scope g c = c.in_ok-answers.ensures.ok.scope

pub returns-clause-extends : goal.returns-clause-extends
returns-clause-extends g c = Extends-trans c.in_ok-answers.ensures.extends c.carry_out.ensures.extends

pub returns-clause-ok : goal.returns-clause-ok
returns-clause-ok g c =
    IfOk-weaker c.carry_out.result _ _ (λ r' h'.
    let enough : 1 < length c.args.group.top.stack.conds = rw (← c.top_frame.ensures, ← c.len.ensures) (omega arith) in
    load-attempts c.args.site.now c.args.element c.args.heap.now c.loaded.new.heap c.args.group c.in_ok-answers.answers _ c.in_ok-answers.ensures.more c.in_ok-answers.ensures.extends c.carry_out.ensures.extends c.requires enough c.in_ok-answers.ensures.ok h')
    c.carry_out.ensures.gives
