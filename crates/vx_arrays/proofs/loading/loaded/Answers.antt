use Rattle.vx_heap.proofs.HeapLaws.{IsHeap-extends}
use Rattle.vx_space.proofs.Spaces.{Extends-trans}
use Rattle.vx_arrays.proofs.Loads.{loaded-made}
use Rattle.vx_arrays.proofs.loading.loaded.Goals as goal

pub read_through-requires-clause-heap : goal.read_through-requires-clause-heap
read_through-requires-clause-heap g c = IsHeap-extends c.in_ok-places.ensures.extends c.args.heap.now c.requires.running.is_heap

pub returns-clause-extends : goal.returns-clause-extends
returns-clause-extends g c = Extends-trans c.in_ok-places.ensures.extends c.in_ok-answers.ensures.extends

pub returns-clause-ok : goal.returns-clause-ok
returns-clause-ok g c = loaded-made c.args.site.now c.args.element c.args.heap.now c.read_through.new.heap c.args.group.now c.in_ok-places.places c.in_ok-answers.answers c.requires.running c.in_ok-places.ensures.extends c.in_ok-answers.ensures.more c.in_ok-places.ensures.scope c.in_ok-places.ensures.at c.in_ok-answers.ensures.ok
