use Rattle.std.proofs.Common.{◌∙◌, ◌++◌, ◌≤◌, ap, append_assoc, length, take, arith}
use Rattle.vx_group.specs.Callers.{tree_ids, node_ids, node_at}
use Rattle.vx_group.proofs.CallerLaws.{tree_ids-more, tree_ids-all}
use Rattle.vx_group.proofs.callers.Callers.ids_out.Goals as goal

pub loop-number-preserved : goal.loop-number-preserved
loop-number-preserved g c =
    let put = rw (← c.in_ok-or_cut_back.ensures.same) at c.node_ids_out.ensures.ok in
    rw (c.in_ok-or_cut_back.ensures.ok, put, c.loop-number.invariant, tree_ids-more c.args.self.now c.loop-number.number)
    (append_assoc c.args.ids.now.items (tree_ids (take c.loop-number.number c.args.self.now)) (node_ids (node_at c.args.self.now c.loop-number.number)))

pub returns-clause-ok : goal.returns-clause-ok
returns-clause-ok g c =
    let long : length c.args.self.now ≤ c.loop-number.number = rw (← c.self.view_is) (let value = c.capacity-number-end.ensures.value in let slots = c.capacity-number-end.ensures.slots in omega arith) in
    c.loop-number.invariant ∙ ap (λ is. c.args.ids.now.items ++ is) (tree_ids-all c.args.self.now c.loop-number.number long)
