use Rattle.vx_starting.proofs.Marking.{all_run, marked}
use Rattle.vx_starting.proofs.starting.marked_heap.Goals as goal

pub mark_classes-requires-clause-inside : goal.mark_classes-requires-clause-inside
mark_classes-requires-clause-inside g c = all_run c.args.program.now _ c.args.allowed c.in_ok-heap.heap c.in_ok-heap.ensures.first

pub returns-clause-ok : goal.returns-clause-ok
returns-clause-ok g c = marked c.args.program.now c.in_ok-mark_classes.ensures.extends c.args.allowed (c.in_ok-heap.ensures.extends.known c.args.allowed c.requires.known) c.args.state c.args.classes.now c.in_ok-heap.heap c.mark_classes.new.heap c.in_ok-heap.ensures.first c.in_ok-mark_classes.ensures.ok
