use Rattle.vx_explain.proofs.FirstLiterals.{none_useful, some_useful}
use Rattle.vx_explain.proofs.literals.is_useful.Goals as goal

pub returns-then-is_never-clause-useful : goal.returns-then-is_never-clause-useful
returns-then-is_never-clause-useful g c = none_useful (g.met.S.Space.lawful c.and.new.self) c.in_ok-some.ensures.extends c.args.rest c.args.most c.args.set c.in_ok-some.some _ c.in_ok-some.ensures.ok c.is_never.ensures c.if-is_never.true

pub returns-clause-useful : goal.returns-clause-useful
returns-clause-useful g c = some_useful (g.met.S.Space.lawful c.and.new.self) (g.met.S.Space.lawful c.minus.new.self) c.in_ok-some.ensures.extends c.in_ok-outside.ensures.extends c.args.rest c.args.most c.args.set c.in_ok-some.some c.in_ok-outside.outside _ _ c.requires.set c.requires.most c.in_ok-some.ensures.ok c.in_ok-outside.ensures.ok c.is_never.ensures c.is_never-2.ensures c.if-is_never.false
