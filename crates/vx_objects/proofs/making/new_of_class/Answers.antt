use Rattle.std.proofs.Common.{◌≤◌, ◌∙◌, arith, length, sym}
use Rattle.std.proofs.lemmas.Result.{IfOk-weaker}
use Rattle.vx_objects.proofs.MakingRows.{full-attempts, refused-attempts}
use Rattle.vx_objects.proofs.making.new_of_class.Goals as goal

pub raise-requires : goal.raise-requires
raise-requires g c = c.requires.classes

pub returns-then-is_without_objects-clause-ok : goal.returns-then-is_without_objects-clause-ok
returns-then-is_without_objects-clause-ok g c = refused-attempts c.args.site.now c.args.heap.now c.args.group c.args.class _ c.requires (sym c.is_without_objects.ensures ∙ c.if-is_without_objects.true) (c.in_ok-raised.ensures _)

pub returns-then-len-from-clause-ok : goal.returns-then-len-from-clause-ok
returns-then-len-from-clause-ok g c =
    IfOk-weaker c.illegal.result _ _ (λ r' h'.
    let full : c.args.site.now.code.now.max_stack ≤ length c.args.group.top.stack.conds = rw (← c.from.ensures, ← c.top_frame.ensures, ← c.len.ensures) (omega (arith, c.if-len-from.true)) in
    full-attempts c.args.site.now c.args.heap.now c.args.group c.args.class _ c.requires (sym c.is_without_objects.ensures ∙ c.if-is_without_objects.false) full (h' _))
    c.illegal.ensures

pub new_fitting-requires-clause-few : goal.new_fitting-requires-clause-few
new_fitting-requires-clause-few g c = rw (← c.from.ensures, ← c.top_frame.ensures, ← c.len.ensures) (omega (arith, c.if-len-from.false))

pub new_fitting-requires-clause-objects : goal.new_fitting-requires-clause-objects
new_fitting-requires-clause-objects g c = sym c.is_without_objects.ensures ∙ c.if-is_without_objects.false
