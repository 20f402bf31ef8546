use Rattle.vx_cond.specs.Cond.{IsCond, IsCondOf}
use Rattle.vx_space.proofs.Spaces.{Extends-refl}
use Rattle.vx_cond.proofs.CondLaws.{AreLeavesApart-disjoint, IsCondOf-joined}
use Rattle.vx_cond.proofs.OnlyLaws.{IsCondOf-joined_only}
use Rattle.vx_cond.proofs.cond.Cond.joined.Goals as goal

pub join_leaves-requires-clause-apart : goal.join_leaves-requires-clause-apart
join_leaves-requires-clause-apart g c = rw (c.leaves.ensures, c.leaves-2.ensures) (AreLeavesApart-disjoint _ c.args.self.now c.args.other.now c.requires.first c.requires.second c.requires.disjoint)

pub returns-clause-ok : goal.returns-clause-ok
returns-clause-ok g c = rw c.of.ensures (IsCondOf-joined _ c.args.self.now c.args.other.now _ _ c.requires.first c.requires.second (Extends-refl _) c.requires.scope c.in_ok-leaves.ensures.extends (rw (c.leaves.ensures, c.leaves-2.ensures) at c.in_ok-leaves.ensures.ok))

pub returns-in-Some-clause-ok : goal.returns-in-Some-clause-ok
returns-in-Some-clause-ok g c = IsCondOf-joined_only _ c.args.self.now c.args.other.now _ c.args.scope c.in-Some.value c.requires.first c.requires.second c.in-Some.ensures.0 c.in-Some.ensures.1 c.requires.scope c.in_ok-one.ensures.ok
