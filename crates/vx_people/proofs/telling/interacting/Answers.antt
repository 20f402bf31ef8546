use Rattle.vx_people.proofs.telling.interacting.Goals as goal

pub returns : goal.returns
returns c = record { entries = c.in_ok-entries.entries.items; are = c.in_ok-entries.ensures; spelled = rw c.as_slice.ensures.value at c.in_ok-interactions_text.ensures }
