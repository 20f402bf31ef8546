use Rattle.std.proofs.Common.{IfOk, subst, ◌∙◌, ◌<◌, length}
use Rattle.vx_sched.proofs.waiting.Waiting.pick.Goals as goal

pub returns-clause-in_range : goal.returns-clause-in_range
returns-clause-in_range g c = subst (λ groups. IfOk c.place_for.result (λ place. place < length groups)) (c.as_slice.ensures.value ∙ c.self.view_is) c.place_for.ensures.in_range
