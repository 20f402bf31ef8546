use Rattle.std.proofs.Common.{Bool, ap, sym, ℕ, ◌-◌, ◌∙◌}
use Rattle.std.specs.Prelude.{find}
use Rattle.vx_java.proofs.Walks.{chain_from, chain_row}
use Rattle.vx_link.specs.Hierarchy.{is_among, superclasses}
use Rattle.vx_types.proofs.Chains.{found_later}
use Rattle.vx_types.proofs.hierarchy.first_above.Goals as goal

pub loop-left-preserved : goal.loop-left-preserved
loop-left-preserved c =
    let p = c.args.program.now in
    let test : ℕ → Bool = λ n. is_among n (superclasses p c.args.other.0) in
    c.loop-left.invariant
    ∙ ap (find test) (chain_row p c.loop-left.left c.loop-left.next c.in-Some.class c.superclass_of-next.result c.in-Some.is c.loop-left-test.true c.superclass_of-next.ensures)
    ∙ found_later test c.in-Some.class.0 (chain_from p (c.loop-left.left - 1) c.superclass_of-next.result) (sym c.is_superclass.ensures ∙ c.if-is_superclass.false)
