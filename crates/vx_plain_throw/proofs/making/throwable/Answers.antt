use Rattle.std.proofs.Common.{ap, slice_set, ◌∙◌}
use Rattle.vx_java.specs.Machine.{Object}
use Rattle.vx_plain.specs.Views.{value_of}
use Rattle.vx_plain_throw.proofs.making.throwable.Goals as goal

pub returns : goal.returns
returns c =
    c.in_ok-write-2.ensures.ok
    ∙ ap (λ (o : Object). record o { cells = slice_set o.cells 1 (value_of c.args.cause) })
    (c.in_ok-write.ensures.ok ∙ ap (λ (o : Object). record o { cells = slice_set o.cells 0 (value_of c.args.message) }) c.in_ok-object.ensures)
