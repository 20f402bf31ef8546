use Rattle.std.proofs.Common.{◌∙◌, ap, sym}
use Rattle.vx_agree.proofs.Moved.{HoldTheSame-of}
use Rattle.vx_agree.proofs.moving.hold_the_same.Goals as goal

pub returns-then-eq-clause-same : goal.returns-then-eq-clause-same
returns-then-eq-clause-same g c = λ told d t. ap (λ y. (g.S.Space.sets c.args.space.now).test y d) (g.met.S.Space.exact c.args.one c.args.other (sym c.eq.ensures ∙ c.if-eq.true))

pub is_never-requires : goal.is_never-requires
is_never-requires g c = c.in_ok-other_inside.ensures.extends.known _ c.in_ok-inside.ensures.ok.known

pub returns-then-eq-2-clause-same : goal.returns-then-eq-2-clause-same
returns-then-eq-2-clause-same g c = λ told. HoldTheSame-of c.in_ok-inside.ensures.extends c.in_ok-other_inside.ensures.extends c.args.condition c.args.one c.args.other c.in_ok-inside.inside c.in_ok-other_inside.other_inside c.requires.condition c.requires.one c.requires.other c.in_ok-inside.ensures.ok c.in_ok-other_inside.ensures.ok (g.met.S.Space.exact c.in_ok-inside.inside c.in_ok-other_inside.other_inside (sym c.eq-2.ensures ∙ c.if-eq-2.true))
