use Rattle.vx_fields.proofs.unresolved.unresolved.Goals as goal

pub returns-in-Disagrees : goal.returns-in-Disagrees
returns-in-Disagrees g c = rw c.in-Disagrees.is (λ sets rest. c.in_ok-raised.ensures sets)
