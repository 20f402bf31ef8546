use Rattle.std.proofs.Common.{refl, sym, ◌∙◌}
use Rattle.vx_flow.proofs.Flows.{settled_next, settled_outside, settled_unfit}
use Rattle.vx_flow.specs.Flowing.{plain}
use Rattle.vx_flow.proofs.flowing.settled.Goals as goal

pub returns-in_default : goal.returns-in_default
returns-in_default c = rw c.in_default.is refl

pub returns-then-not-fit_in : goal.returns-then-not-fit_in
returns-then-not-fit_in c =
    rw c.in-Some.is (settled_unfit c.args.code.now c.args.targets.items (plain c.in-Some.state) (rw c.as_slice.ensures at (sym c.fit_in.ensures ∙ c.if-not-fit_in.true)))

pub returns-then-not-are_inside : goal.returns-then-not-are_inside
returns-then-not-are_inside c =
    rw c.in-Some.is
    (settled_outside c.args.code.now c.args.targets.items (plain c.in-Some.state) (rw c.as_slice.ensures at (sym c.fit_in.ensures ∙ c.if-not-fit_in.false))
    (rw (c.deref.ensures.value, c.len.ensures) at (sym c.are_inside.ensures ∙ c.if-not-are_inside.true)))

pub returns : goal.returns
returns c =
    rw (c.in-Some.is, c.of-to.ensures)
    (settled_next c.args.code.now c.args.targets.items (plain c.in-Some.state) (rw c.as_slice.ensures at (sym c.fit_in.ensures ∙ c.if-not-fit_in.false))
    (rw (c.deref.ensures.value, c.len.ensures) at (sym c.are_inside.ensures ∙ c.if-not-are_inside.false)))
