use Rattle.vx_heap.proofs.MoreTexts.{KeepsPlain-texts}
use Rattle.vx_heap.proofs.heap.Heap.append_text.Goals as goal

pub returns-clause-keeps : goal.returns-clause-keeps
returns-clause-keeps g c = rw (← c.self.view_is) (KeepsPlain-texts _ _ c.append.ensures.extends)
