use Rattle.vx_verify.proofs.MadeLaws.{moved_none, moved_some}
use Rattle.vx_verify.proofs.rows.moved.Goals as goal

pub returns-in_ok-stack-in-Some : goal.returns-in_ok-stack-in-Some
returns-in_ok-stack-in-Some c =
    moved_some c.args.store.now _ c.args.form c.in-Some.cut c.in_ok-stack-in-Some.stack _ (rw c.in-Some.is at c.in_ok-found.ensures)
    (rw (c.deref.ensures.value, c.deref-in-Some.ensures.value) at c.in_ok-stack-in-Some.ensures)

pub returns-in-None : goal.returns-in-None
returns-in-None c = moved_none c.args.store.now c.args.store.now c.args.form _ (rw c.in-None.is at c.in_ok-found.ensures)
