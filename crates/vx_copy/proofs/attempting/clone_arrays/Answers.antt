use Rattle.std.proofs.Common.{◌-◌, ◌<◌, ap, arith, length}
use Rattle.std.proofs.lemmas.Result.{IfOk-weaker}
use Rattle.vx_space.proofs.Spaces.{Extends-trans}
use Rattle.vx_copy.proofs.CloneRows.{clones-attempts, clones-ready, clones-scope, none-attempts, of_group, receiver_held, receiver_is_cond}
use Rattle.vx_copy.proofs.attempting.clone_arrays.Goals as goal

pub returns-then-count-eq0-clause-ok : goal.returns-then-count-eq0-clause-ok
returns-then-count-eq0-clause-ok g c =
    IfOk-weaker c.illegal.result _ _ (λ r' h'. none-attempts c.args.site.now c.args.heap.now c.args.group c.requires.running _ (rw (← c.top_frame.ensures, ← c.len-count.ensures) (omega arith)) (h' _))
    c.illegal.ensures

pub clones-requires-clause-classes : goal.clones-requires-clause-classes
clones-requires-clause-classes g c = c.requires.running.classes

pub clones-requires-clause-heap : goal.clones-requires-clause-heap
clones-requires-clause-heap g c = c.requires.running.is_heap

pub clones-requires-clause-receivers : goal.clones-requires-clause-receivers
clones-requires-clause-receivers g c =
    let at = of_group c.args.group c.top_frame.result.now c.get-receivers.result.now (c.len-count.result - 1) c.top_frame.ensures (ap (λ k. k - 1) c.len-count.ensures) c.get-receivers.ensures in
    let some : 0 < length c.args.group.top.stack.conds = rw (← c.top_frame.ensures, ← c.len-count.ensures) (omega arith) in
    receiver_is_cond c.args.site.now c.args.heap.now c.args.group c.requires.running c.get-receivers.result.now some at

pub clones-requires-clause-held : goal.clones-requires-clause-held
clones-requires-clause-held g c =
    let at = of_group c.args.group c.top_frame.result.now c.get-receivers.result.now (c.len-count.result - 1) c.top_frame.ensures (ap (λ k. k - 1) c.len-count.ensures) c.get-receivers.ensures in
    let some : 0 < length c.args.group.top.stack.conds = rw (← c.top_frame.ensures, ← c.len-count.ensures) (omega arith) in
    receiver_held c.args.site.now c.args.heap.now c.args.group c.requires.running c.get-receivers.result.now some at

pub carry_out-requires-clause-ready : goal.carry_out-requires-clause-ready
carry_out-requires-clause-ready g c =
    let at = of_group c.args.group c.top_frame.result.now c.get-receivers.result.now (c.len-count.result - 1) c.top_frame.ensures (ap (λ k. k - 1) c.len-count.ensures) c.get-receivers.ensures in
    let some : 0 < length c.args.group.top.stack.conds = rw (← c.top_frame.ensures, ← c.len-count.ensures) (omega arith) in
    clones-ready c.args.site.now c.args.heap.now c.args.group c.requires.running c.get-receivers.result.now some at c.clones.new.heap c.in_ok-answers.answers c.in_ok-answers.ensures.extends c.in_ok-answers.ensures.ok (rw (← c.group.view_is) c.group.invariant.1)

pub carry_out-requires-clause-scope : goal.carry_out-requires-clause-scope
carry_out-requires-clause-scope g c =
    let at = of_group c.args.group c.top_frame.result.now c.get-receivers.result.now (c.len-count.result - 1) c.top_frame.ensures (ap (λ k. k - 1) c.len-count.ensures) c.get-receivers.ensures in
    let some : 0 < length c.args.group.top.stack.conds = rw (← c.top_frame.ensures, ← c.len-count.ensures) (omega arith) in
    clones-scope c.args.site.now c.args.heap.now c.args.group c.requires.running c.get-receivers.result.now some at c.clones.new.heap c.in_ok-answers.answers c.in_ok-answers.ensures.extends c.in_ok-answers.ensures.ok

pub returns-clause-extends : goal.returns-clause-extends
returns-clause-extends g c = Extends-trans c.in_ok-answers.ensures.extends c.carry_out.ensures.extends

pub returns-clause-ok : goal.returns-clause-ok
returns-clause-ok g c =
    IfOk-weaker c.carry_out.result _ _ (λ r' h'.
    let at = of_group c.args.group c.top_frame.result.now c.get-receivers.result.now (c.len-count.result - 1) c.top_frame.ensures (ap (λ k. k - 1) c.len-count.ensures) c.get-receivers.ensures in
    let some : 0 < length c.args.group.top.stack.conds = rw (← c.top_frame.ensures, ← c.len-count.ensures) (omega arith) in
    clones-attempts c.args.site.now c.args.heap.now c.args.group c.requires.running c.get-receivers.result.now some at c.clones.new.heap c.in_ok-answers.answers c.in_ok-answers.ensures.extends c.in_ok-answers.ensures.ok _ c.carry_out.ensures.extends h')
    c.carry_out.ensures.gives
