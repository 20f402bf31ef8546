use Rattle.std.proofs.Common.{sym, ◌∙◌}
use Rattle.vx_space.proofs.Spaces.{Extends-trans}
use Rattle.vx_cond.proofs.CondLaws.{AreDisjoint-extends}
use Rattle.vx_frame.proofs.FrameLaws.{IsFrame-extends, IsFrame-of}
use Rattle.vx_group.proofs.CallerLaws.{IsCallerFrame-extends}
use Rattle.vx_group.proofs.JoinLaws.{IsFrameJoined-made}
use Rattle.vx_group.proofs.joins.join_inside.Goals as goal

pub frame_inside-requires-2-clause-frame : goal.frame_inside-requires-2-clause-frame
frame_inside-requires-2-clause-frame g c = IsCallerFrame-extends c.in_ok-left.ensures.extends _ _ c.requires.known_second c.requires.second

pub join-requires-clause-first : goal.join-requires-clause-first
join-requires-clause-first g c = IsFrame-extends c.in_ok-right.ensures.extends _ (IsFrame-of _ _ _ c.in_ok-left.ensures.ok.is_frame)

pub join-requires-clause-second : goal.join-requires-clause-second
join-requires-clause-second g c = IsFrame-of _ _ _ c.in_ok-right.ensures.ok.is_frame

pub join-requires-clause-shapes : goal.join-requires-clause-shapes
join-requires-clause-shapes g c = c.in_ok-left.ensures.ok.shape ∙ c.requires.shapes ∙ sym c.in_ok-right.ensures.ok.shape

pub join-requires-clause-disjoint : goal.join-requires-clause-disjoint
join-requires-clause-disjoint g c = rw (c.in_ok-left.ensures.ok.scope, c.in_ok-right.ensures.ok.scope) (AreDisjoint-extends (Extends-trans c.in_ok-left.ensures.extends c.in_ok-right.ensures.extends) c.requires.known_first c.requires.known_second c.requires.disjoint)

pub returns-clause-extends : goal.returns-clause-extends
returns-clause-extends g c = Extends-trans (Extends-trans c.in_ok-left.ensures.extends c.in_ok-right.ensures.extends) c.in_ok-made.ensures.extends

pub returns-clause-ok : goal.returns-clause-ok
returns-clause-ok g c = IsFrameJoined-made c.args.a c.args.b c.args.first.now c.args.second.now _ _ _ c.requires.disjoint c.requires.known_first c.requires.known_second c.requires.second.is_frame c.in_ok-left.ensures.extends c.in_ok-right.ensures.extends c.in_ok-made.ensures.extends c.in_ok-left.ensures.ok c.in_ok-right.ensures.ok c.in_ok-made.ensures.scope c.in_ok-made.ensures.shape c.in_ok-made.ensures.ok
