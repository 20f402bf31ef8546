use Rattle.std.proofs.Common.{sym, ◌∙◌}
use Rattle.vx_cond.specs.Cond.{IsCond, IsCondOf}
use Rattle.vx_space.proofs.Spaces.{Extends-refl}
use Rattle.vx_cond.proofs.CondLaws.{IsCondOf-restricted, IsCondOf-whole, IsCondOf-nothing}
use Rattle.vx_cond.proofs.OnlyLaws.{IsCondOf-inside_only}
use Rattle.vx_cond.proofs.cond.Cond.inside.Goals as goal

pub returns-then-eq-clause-ok : goal.returns-then-eq-clause-ok
returns-then-eq-clause-ok g c = IsCondOf-whole _ c.args.self.now c.in_ok-same.same c.args.within _ c.requires.valid (Extends-refl _) c.requires.scope (g.met.S.Space.exact _ _ (sym c.eq.ensures ∙ c.if-eq.true) ∙ c.scope.ensures) c.in_ok-same.ensures

pub returns-then-is_never-clause-ok : goal.returns-then-is_never-clause-ok
returns-then-is_never-clause-ok g c = rw c.nothing.ensures (IsCondOf-nothing _ (g.met.S.Space.lawful c.args.space.now) c.args.self.now c.args.within _ c.requires.valid (Extends-refl _) c.requires.scope (c.is_never.ensures.0 c.if-is_never.true))

pub returns-clause-ok : goal.returns-clause-ok
returns-clause-ok g c = rw c.of.ensures (IsCondOf-restricted _ c.args.self.now c.args.within _ _ c.requires.valid c.requires.known (Extends-refl _) c.requires.scope c.in_ok-leaves.ensures.extends (rw c.leaves.ensures at c.in_ok-leaves.ensures.ok))

pub returns-in-Some-clause-ok : goal.returns-in-Some-clause-ok
returns-in-Some-clause-ok g c = IsCondOf-inside_only _ c.args.self.now _ c.args.within c.args.scope c.in-Some.value c.requires.valid c.in-Some.ensures c.requires.scope c.in_ok-one.ensures.ok
