use Rattle.vx_effects.proofs.changing.text_changed.Goals as goal

pub set_text-requires-clause-held : goal.set_text-requires-clause-held
set_text-requires-clause-held g c = rw c.deref.ensures.value c.requires.held

pub returns-clause-done : goal.returns-clause-done
returns-clause-done g c = rw c.deref.ensures.value at c.in_ok-set_text.ensures.changed
