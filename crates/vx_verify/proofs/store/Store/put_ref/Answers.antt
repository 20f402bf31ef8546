use Rattle.vx_verify.proofs.PutLaws.{has_known_type}
use Rattle.vx_verify.proofs.store.Store.put_ref.Goals as goal

pub returns-in-Some-clause-ok : goal.returns-in-Some-clause-ok
returns-in-Some-clause-ok c = has_known_type c.args.self.now c.in-Some.number c.args.item.now c.requires.store c.in-Some.ensures
