use Rattle.vx_sched.proofs.FirstKeys.{first_removed}
use Rattle.vx_sched.proofs.waiting.Waiting.take.Goals as goal

pub invariant_of-self : goal.invariant_of-self
invariant_of-self g c = rw (c.remove_key.ensures, c.remove.ensures.items) (first_removed c.self.inside.keys.items c.self.inside.groups.items c.args.place c.self.invariant)
