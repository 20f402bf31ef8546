use Rattle.std.proofs.Common.{subst, sym, ◌∙◌}
use Rattle.vx_explain.specs.Rules.{AreNamed}
use Rattle.vx_space.proofs.Spaces.{Extends-trans}
use Rattle.vx_explain.proofs.FirstLiterals.{covered_told}
use Rattle.vx_explain.proofs.literals.is_covered.Goals as goal

pub left_by-requires-clause-named : goal.left_by-requires-clause-named
left_by-requires-clause-named g c = subst (λ n. AreNamed n c.args.kept.now) (sym (Extends-trans c.in_ok-set.ensures.extends c.in_ok-own.ensures.extends).options) c.requires.kept

pub left_by-requires-2-clause-named : goal.left_by-requires-2-clause-named
left_by-requires-2-clause-named g c = subst (λ n. AreNamed n c.args.later.now) (sym (Extends-trans (Extends-trans c.in_ok-set.ensures.extends c.in_ok-own.ensures.extends) c.in_ok-some.ensures.extends).options) c.requires.later

pub returns-clause-covered : goal.returns-clause-covered
returns-clause-covered g c = covered_told (g.met.S.Space.lawful c.left_by-2.new.space) c.in_ok-set.ensures.extends c.in_ok-own.ensures.extends c.in_ok-some.ensures.extends c.in_ok-rest.ensures.extends c.args.literal c.args.kept.now c.args.later.now c.args.least c.in_ok-set.set c.in_ok-own.own c.in_ok-some.some c.in_ok-rest.rest _ c.requires.least c.in_ok-set.ensures.set c.in_ok-own.ensures.ok c.in_ok-some.ensures.left c.in_ok-rest.ensures.left c.is_never.ensures
