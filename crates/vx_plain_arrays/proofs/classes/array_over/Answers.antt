use Rattle.std.proofs.Common.{subst, sym, ◌+◌, ◌≡◌, ◌∙◌}
use Rattle.std.specs.Prelude.{IfSome}
use Rattle.vx_plain.proofs.Found.{held_is}
use Rattle.vx_references.proofs.ArrayNumbers.{array_over_is}
use Rattle.vx_value.specs.declared.ids.ClassId.{ClassId}
use Rattle.vx_plain_arrays.proofs.classes.array_over.Goals as goal

pub returns : goal.returns
returns c =
    let number = (λ i. c.from.ensures i + c.elements.ensures i) ∙ sym (array_over_is c.args.program.now c.args.class.0) in
    held_is _ _ _ (subst (λ n. IfSome c.class_if.result (λ (class : ClassId). class.0 ≡ n)) number c.class_if.ensures) c.held.ensures.value
