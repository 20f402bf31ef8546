use Rattle.vx_space.proofs.Spaces.{Extends-trans}
use Rattle.vx_frame.proofs.FrameLaws.{IsFrame-extends}
use Rattle.vx_group.proofs.GroupLaws.{IsGroup-attempts, IsGroup-top, IsPartOf-made}
use Rattle.vx_group.proofs.group.Group.inside.Goals as goal

pub restrict-requires-clause-valid : goal.restrict-requires-clause-valid
restrict-requires-clause-valid g c = IsGroup-attempts _ _ (rw (← c.self.view_is) at c.requires.group)

pub restrict-requires-2-clause-valid : goal.restrict-requires-2-clause-valid
restrict-requires-2-clause-valid g c = IsFrame-extends c.in_ok-attempts.ensures.extends _ (IsGroup-top _ _ (rw (← c.self.view_is) at c.requires.group))

pub returns-clause-extends : goal.returns-clause-extends
returns-clause-extends g c = Extends-trans c.in_ok-attempts.ensures.extends c.in_ok-top.ensures.extends

pub returns-clause-ok : goal.returns-clause-ok
returns-clause-ok g c = rw (← c.self.view_is, c.in_ok-copy.ensures, c.attempts.view_is) (IsPartOf-made (g.met.S.Space.lawful c.restrict-2.new.space) _ c.args.within c.in_ok-attempts.attempts c.in_ok-top.top (rw (← c.self.view_is) at c.requires.group) c.requires.known c.in_ok-attempts.ensures.extends c.in_ok-top.ensures.extends c.in_ok-attempts.ensures.ok c.in_ok-top.ensures.scope c.in_ok-top.ensures.shape c.in_ok-top.ensures.ok)
