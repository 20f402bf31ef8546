use Rattle.vx_space.proofs.Spaces.{Extends-trans}
use Rattle.vx_throw.proofs.FailLaws.{HasLeft-failed, may_wrap, path_known}
use Rattle.vx_throw.proofs.failing.fail.Goals as goal

pub mark_failed-requires-clause-heap : goal.mark_failed-requires-clause-heap
mark_failed-requires-clause-heap g c = c.requires.flight.1.is_heap

pub mark_failed-requires-clause-program : goal.mark_failed-requires-clause-program
mark_failed-requires-clause-program g c = c.requires.flight.1.is_for

pub mark_failed-requires-clause-known : goal.mark_failed-requires-clause-known
mark_failed-requires-clause-known g c = rw c.path.ensures (path_known c.args.program.now _ c.args.heap.now c.requires.flight.0 c.args.flight c.requires.flight.1)

pub mark_failed-requires-clause-inside : goal.mark_failed-requires-clause-inside
mark_failed-requires-clause-inside g c = rw c.path.ensures c.requires.flight.1.stands.runs

pub wrapped-requires : goal.wrapped-requires
wrapped-requires g c = may_wrap c.args.program.now c.args.heap.now c.mark_failed.new.heap c.requires.flight.0 c.args.flight c.requires.flight.1 c.in_ok-mark_failed.ensures.extends (rw (c.top_frame.ensures, c.path.ensures) at c.in_ok-mark_failed.ensures.ok)

pub returns-in_err-objects-clause-extends : goal.returns-in_err-objects-clause-extends
returns-in_err-objects-clause-extends g c = Extends-trans c.in_ok-mark_failed.ensures.extends c.wrapped.ensures.extends

pub returns-clause-extends : goal.returns-clause-extends
returns-clause-extends g c = Extends-trans c.in_ok-mark_failed.ensures.extends c.in_ok-objects.ensures.extends

pub returns-clause-left : goal.returns-clause-left
returns-clause-left g c = HasLeft-failed c.args.program.now c.args.heap.now c.mark_failed.new.heap c.requires.flight.0 c.args.flight c.requires.flight.1 c.in_ok-mark_failed.ensures.extends (rw (c.top_frame.ensures, c.path.ensures) at c.in_ok-mark_failed.ensures.ok) c.wrapped.new.heap c.in_ok-objects.objects c.requires.kind c.in_ok-objects.ensures.extends c.in_ok-objects.ensures.wrapped
