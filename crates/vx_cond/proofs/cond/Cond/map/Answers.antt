use Rattle.vx_cond.proofs.OnlyLaws.{IsCondLifting-only, IsCondLifting-mapped}
use Rattle.vx_cond.proofs.cond.Cond.map.Goals as goal

pub returns-in-Some-clause-ok : goal.returns-in-Some-clause-ok
returns-in-Some-clause-ok g c = IsCondLifting-only g.T.Ord.cmp g.U.Ord.cmp _ _ c.args.self.now c.in-Some.value _ _ c.requires.valid c.in-Some.ensures c.f-made.ensures (rw c.scope.ensures at c.in_ok-one.ensures.ok)

pub returns-clause-ok : goal.returns-clause-ok
returns-clause-ok g c = rw (c.of.ensures, c.scope-2.ensures) (IsCondLifting-mapped g.T.Ord.cmp g.U.Ord.cmp c.in_ok-leaves.ensures.extends _ c.args.self.now _ c.requires.valid (rw c.leaves.ensures at c.in_ok-leaves.ensures.ok))
