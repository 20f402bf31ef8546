use Rattle.std.proofs.Common.{◌∙◌, ◌++◌, ◌-◌, ◌∷◌, [], ap, append_assoc, map, sym}
use Rattle.vx_java.proofs.Walks.{chain_from, chain_row}
use Rattle.vx_java.specs.Ids.{as_class}
use Rattle.vx_java.proofs.hierarchy.superclasses.Goals as goal

pub loop-left-preserved : goal.loop-left-preserved
loop-left-preserved c =
    let p = c.args.program.now in
    let items = c.loop-left.chain.items in
    let rest = chain_from p (c.loop-left.left - 1) c.superclass_of-next.result in
    c.loop-left.invariant
    ∙ ap (λ classes. items ++ map as_class classes) (chain_row p c.loop-left.left c.loop-left.next c.in-Some.class c.superclass_of-next.result c.in-Some.is c.loop-left-test.true c.superclass_of-next.ensures)
    ∙ sym (append_assoc items (c.in-Some.class ∷ []) (map as_class rest))
    ∙ ap (λ chain. chain ++ map as_class rest) (sym c.in_ok-push.ensures.items)
