use Rattle.std.proofs.Common.{sym, ◌∙◌, ap}
use Rattle.vx_space.proofs.Spaces.{Extends-refl, Extends-trans}
use Rattle.vx_group.proofs.GroupLaws.{IsGroup-extends, IsGroup-path_known, IsPartOf-extends, split_inside, split_outside, split_whole}
use Rattle.vx_group.proofs.group.Group.cut_off.Goals as goal

pub minus-requires-clause-first : goal.minus-requires-clause-first
minus-requires-clause-first g c = rw c.path.ensures (IsGroup-path_known _ c.args.self.now c.requires.group)

pub inside-requires-clause-group : goal.inside-requires-clause-group
inside-requires-clause-group g c = IsGroup-extends c.in_ok-rest.ensures.extends _ c.requires.group

pub is_never-requires : goal.is_never-requires
is_never-requires g c = c.in_ok-outer.ensures.extends.known _ c.in_ok-rest.ensures.ok.known

pub inside-requires-2-clause-group : goal.inside-requires-2-clause-group
inside-requires-2-clause-group g c = IsGroup-extends (Extends-trans c.in_ok-rest.ensures.extends c.in_ok-outer.ensures.extends) _ c.requires.group

pub returns-then-is_never-clause-extends : goal.returns-then-is_never-clause-extends
returns-then-is_never-clause-extends g c = Extends-trans c.in_ok-rest.ensures.extends c.in_ok-outer.ensures.extends

pub returns-then-is_never-clause-inside : goal.returns-then-is_never-clause-inside
returns-then-is_never-clause-inside g c = split_whole c.in_ok-rest.ensures.extends c.in_ok-outer.ensures.extends c.args.self.now c.args.within _ c.requires.group (rw c.path.ensures at c.in_ok-rest.ensures.ok) (λ d.
    sym (c.in_ok-outer.ensures.extends.test _ d c.in_ok-rest.ensures.ok.known)
    ∙ ap (λ i. (g.S.Space.sets c.inside.new.space).test i d) (c.is_never.ensures.0 c.if-is_never.true)
    ∙ (g.met.S.Space.lawful c.inside.new.space).never_test d)

pub returns-then-is_never-clause-outside : goal.returns-then-is_never-clause-outside
returns-then-is_never-clause-outside g c = split_outside c.in_ok-rest.ensures.extends (Extends-refl _) c.in_ok-outer.ensures.extends c.args.self.now _ c.args.within _ c.requires.group (rw c.path.ensures at c.in_ok-rest.ensures.ok) c.in_ok-outer.ensures.ok

pub returns-clause-extends : goal.returns-clause-extends
returns-clause-extends g c = Extends-trans (Extends-trans c.in_ok-rest.ensures.extends c.in_ok-outer.ensures.extends) c.in_ok-self.ensures.extends

pub returns-clause-inside : goal.returns-clause-inside
returns-clause-inside g c = split_inside (Extends-trans c.in_ok-rest.ensures.extends c.in_ok-outer.ensures.extends) (Extends-refl _) c.args.self.now _ c.args.within c.requires.group c.requires.known c.in_ok-self.ensures.ok

pub returns-clause-outside : goal.returns-clause-outside
returns-clause-outside g c = IsPartOf-extends _ c.in_ok-self.ensures.extends _ c.args.self.now _ (split_outside c.in_ok-rest.ensures.extends (Extends-refl _) c.in_ok-outer.ensures.extends c.args.self.now _ c.args.within _ c.requires.group (rw c.path.ensures at c.in_ok-rest.ensures.ok) c.in_ok-outer.ensures.ok)
