use Rattle.vx_cond.proofs.CondLaws.{IsCond-extends}
use Rattle.vx_families.proofs.MoreTexts.{Grows-texts, IsHeap-texts}
use Rattle.vx_heap.proofs.HeapLaws.{IsHeap-extends}
use Rattle.vx_cells.specs.Places.{place_cmp}
use Rattle.vx_cells.proofs.Giving.{AreAnswers-read, ArePlacesHeld-later}
use Rattle.vx_cells.proofs.reading.read_through.Goals as goal

pub given_at-requires-clause-heap : goal.given_at-requires-clause-heap
given_at-requires-clause-heap g c = IsHeap-texts _ c.args.heap.now c.passes_at.new.heap c.in_ok-passes.ensures.more (IsHeap-extends c.in_ok-passes.ensures.extends c.args.heap.now c.requires.heap)

pub given_at-requires-clause-places : goal.given_at-requires-clause-places
given_at-requires-clause-places g c = IsCond-extends place_cmp c.in_ok-passes.ensures.extends c.args.places.now c.requires.places

pub given_at-requires-clause-held : goal.given_at-requires-clause-held
given_at-requires-clause-held g c = ArePlacesHeld-later c.in_ok-passes.ensures.extends c.args.heap.now c.passes_at.new.heap c.args.places.now c.requires.heap (Grows-texts c.args.heap.now c.passes_at.new.heap c.in_ok-passes.ensures.more) c.requires.places c.requires.held

pub returns-clause-ok : goal.returns-clause-ok
returns-clause-ok g c = AreAnswers-read c.args.program.now c.in_ok-passes.ensures.extends c.in_ok-answers.ensures.extends c.passes_at.new.heap c.args.places.now c.in_ok-passes.passes c.in_ok-answers.answers (IsHeap-texts _ c.args.heap.now c.passes_at.new.heap c.in_ok-passes.ensures.more c.requires.heap) c.requires.places c.in_ok-passes.ensures.ok c.in_ok-answers.ensures.cond c.in_ok-answers.ensures.scope c.in_ok-answers.ensures.at
