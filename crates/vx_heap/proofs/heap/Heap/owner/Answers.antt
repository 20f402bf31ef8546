use Rattle.std.proofs.Common.{◌∙◌, ap}
use Rattle.std.specs.Prelude.{option_map}
use Rattle.vx_java.specs.Ids.{as_class}
use Rattle.vx_link.specs.ClassNames.{class_named}
use Rattle.vx_heap.proofs.heap.Heap.owner.Goals as goal

pub returns : goal.returns
returns g c = c.resolved.ensures ∙ ap (λ name. option_map as_class (class_named c.args.program.now name)) c.owner_entry.ensures
