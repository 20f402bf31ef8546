use Rattle.std.proofs.Common.{◌∙◌, ap, [], fold}
use Rattle.vx_initial_heap.specs.Literals.{with_class}
use Rattle.vx_initial_heap.proofs.Gathering.{gathered-literals}
use Rattle.vx_initial_heap.proofs.literals.literals_of.Goals as goal

pub returns : goal.returns
returns c = c.in_ok-literals.ensures ∙ ap (fold with_class []) c.as_slice.ensures ∙ gathered-literals c.args.program.now
