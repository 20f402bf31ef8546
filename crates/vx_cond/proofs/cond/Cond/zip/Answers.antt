use Rattle.vx_cond.proofs.OnlyLaws.{IsCondLifting2-only, IsCondLifting2-zipped}
use Rattle.vx_cond.proofs.cond.Cond.zip.Goals as goal

pub returns-in-Some-clause-ok : goal.returns-in-Some-clause-ok
returns-in-Some-clause-ok g c = IsCondLifting2-only g.T.Ord.cmp g.U.Ord.cmp g.V.Ord.cmp _ _ c.args.self.now c.args.other.now _ _ _ _ c.requires.first c.requires.second c.requires.scopes c.in-Some.ensures.0 c.in-Some.ensures.1 c.f-value.ensures (rw c.scope.ensures at c.in_ok-one.ensures.ok)

pub returns-clause-ok : goal.returns-clause-ok
returns-clause-ok g c = rw (c.of.ensures, c.scope-2.ensures) (IsCondLifting2-zipped g.T.Ord.cmp g.U.Ord.cmp g.V.Ord.cmp c.in_ok-leaves.ensures.extends _ c.args.self.now c.args.other.now _ c.requires.first c.requires.second c.requires.scopes (rw (c.leaves.ensures, c.leaves-2.ensures) at c.in_ok-leaves.ensures.ok))
