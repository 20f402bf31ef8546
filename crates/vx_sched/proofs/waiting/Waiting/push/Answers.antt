use Rattle.vx_sched.proofs.FirstKeys.{first_pushed}
use Rattle.vx_sched.proofs.waiting.Waiting.push.Goals as goal

pub invariant_of-self-2 : goal.invariant_of-self-2
invariant_of-self-2 g c = rw c.in_ok-push.ensures.items (first_pushed c.self.inside.keys.items c.self.inside.groups.items c.args.group c.self.invariant)
