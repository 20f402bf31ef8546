use Rattle.std.proofs.Common.{sym, ◌∙◌, ◌+◌}
use Rattle.vx_references.proofs.ArrayNumbers.{array_over_is}
use Rattle.vx_arrays.proofs.classes.array_over.Goals as goal

pub returns : goal.returns
returns c = (λ i. c.from.ensures i + c.elements.ensures i) ∙ sym (array_over_is c.args.program.now c.args.class.0)
