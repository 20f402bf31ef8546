use Rattle.vx_verify.proofs.PutLaws.{has_known}
use Rattle.vx_verify.proofs.store.Store.pushed.Goals as goal

pub returns-in-Some-clause-ok : goal.returns-in-Some-clause-ok
returns-in-Some-clause-ok c = has_known c.args.self.now c.args.top c.args.under c.in-Some.stack c.requires.store c.in-Some.ensures
