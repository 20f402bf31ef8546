use Rattle.std.proofs.Common.{ap, ◌∙◌, map}
use Rattle.vx_initial_heap.proofs.Keys.{with-key}
use Rattle.vx_initial_heap.specs.Literals.{first_of}
use Rattle.vx_initial_heap.proofs.literals.Literals.add.Goals as goal

pub returns : goal.returns
returns c = rw (← c.self.view_is) (ap (map first_of) c.in_ok-insert.ensures.keys ∙ with-key c.self.inside.listed.keys c.args.literal)
