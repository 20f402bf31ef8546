use Rattle.vx_verify.proofs.MadeLaws.{stack_itself}
use Rattle.vx_verify.proofs.rows.put_given.Goals as goal

pub returns-in-None : goal.returns-in-None
returns-in-None c = rw c.in-None.is (stack_itself c.args.store.now c.args.under c.requires.store c.requires.under)
