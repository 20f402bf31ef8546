use Rattle.vx_initial_heap.proofs.first.objects_and_texts.Goals as goal

pub returns-clause-texts : goal.returns-clause-texts
returns-clause-texts c = rw c.in_ok-texts.ensures at c.in_ok-objects.ensures.extends
