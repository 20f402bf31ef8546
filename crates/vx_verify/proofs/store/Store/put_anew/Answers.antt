use Rattle.std.proofs.Common.{arith, refl}
use Rattle.vx_verify.proofs.PutLaws.{has_type}
use Rattle.vx_verify.proofs.store.Store.put_anew.Goals as goal

pub returns-clause-ok : goal.returns-clause-ok
returns-clause-ok c =
    has_type c.args.self.now _ c.in_ok-number.number c.args.item c.requires c.in_ok-push.ensures.items refl refl (omega (arith, c.in_ok-number.ensures))
