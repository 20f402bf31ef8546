use Rattle.vx_heap.proofs.FirstHeap.{known_options, lifted_is_first}
use Rattle.vx_heap.proofs.heap.Heap.new.Goals as goal

pub lifted_first-requires-clause-options : goal.lifted_first-requires-clause-options
lifted_first-requires-clause-options g c = known_options c.args.program.now _ c.args.program.now.fields c.in_ok-first.first.statics.items c.in_ok-first.ensures.statics c.requires.options

pub returns-clause-first : goal.returns-clause-first
returns-clause-first g c =
    lifted_is_first c.args.program.now (g.S.Space.sets c.lifted_first.new.space) c.args.allowed c.in_ok-first.first c.in_ok-resolved.resolved.items c.in_ok-lifted.lifted.objects.items c.in_ok-lifted.lifted.statics.items c.in_ok-lifted.lifted.inits.items c.in_ok-resolved.ensures (c.in_ok-lifted.ensures.extends.known c.args.allowed c.requires.known) c.requires.core c.in_ok-first.ensures c.in_ok-lifted.ensures.objects c.in_ok-lifted.ensures.statics c.in_ok-lifted.ensures.inits
