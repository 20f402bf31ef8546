use Rattle.vx_space.proofs.Spaces.{Extends-trans}
use Rattle.vx_cond.proofs.CondLaws.{AreDisjoint-extends}
use Rattle.vx_frame.proofs.FrameLaws.{IsFrame-extends}
use Rattle.vx_group.proofs.GroupLaws.{IsGroup-attempts, IsGroup-top, IsGroup-one_scope, IsGroup-path_known, IsGroupIn-group, group_callers-later}
use Rattle.vx_group.proofs.GroupJoins.{join_parts, joined_path, IsGroupOf-joined, other_callers-later, other_shapes}
use Rattle.vx_group.proofs.group.Group.take_in.Goals as goal

pub join-requires-clause-first : goal.join-requires-clause-first
join-requires-clause-first g c = IsGroup-attempts _ _ (rw (← c.self.view_is) at (IsGroupIn-group _ _ _ c.requires.first))

pub join-requires-clause-second : goal.join-requires-clause-second
join-requires-clause-second g c = IsGroup-attempts _ _ (rw (← c.other.view_is) at (IsGroupIn-group _ _ _ c.requires.second))

pub join-requires-2-clause-first : goal.join-requires-2-clause-first
join-requires-2-clause-first g c = IsFrame-extends c.in_ok-attempts.ensures.extends _ (IsGroup-top _ _ (rw (← c.self.view_is) at (IsGroupIn-group _ _ _ c.requires.first)))

pub join-requires-2-clause-second : goal.join-requires-2-clause-second
join-requires-2-clause-second g c = IsFrame-extends c.in_ok-attempts.ensures.extends _ (IsGroup-top _ _ (rw (← c.other.view_is) at (IsGroupIn-group _ _ _ c.requires.second)))

pub join-requires-2-clause-disjoint : goal.join-requires-2-clause-disjoint
join-requires-2-clause-disjoint g c =
    let first = rw (← c.self.view_is) at (IsGroupIn-group _ _ _ c.requires.first) in
    let second = rw (← c.other.view_is) at (IsGroupIn-group _ _ _ c.requires.second) in
    rw (IsGroup-one_scope _ _ first, IsGroup-one_scope _ _ second) (AreDisjoint-extends c.in_ok-attempts.ensures.extends (IsGroup-path_known _ _ first) (IsGroup-path_known _ _ second) (rw (← c.self.view_is, ← c.other.view_is) at c.requires.disjoint))

pub returns-in_err-top-clause-extends : goal.returns-in_err-top-clause-extends
returns-in_err-top-clause-extends g c = Extends-trans c.in_ok-attempts.ensures.extends c.in_err-top.ensures.extends

pub join_callers-requires-clause-first : goal.join_callers-requires-clause-first
join_callers-requires-clause-first g c = rw (c.path.ensures, c.len.ensures, ← c.self.view_is) (group_callers-later (Extends-trans c.in_ok-attempts.ensures.extends c.in_ok-top.ensures.extends) _ _ (rw (← c.self.view_is) at c.requires.first))

pub join_callers-requires-clause-second : goal.join_callers-requires-clause-second
join_callers-requires-clause-second g c = rw (c.path-2.ensures, c.len.ensures, ← c.other.view_is) (other_callers-later (Extends-trans c.in_ok-attempts.ensures.extends c.in_ok-top.ensures.extends) _ _ _ (rw (← c.self.view_is) at c.requires.first) (rw (← c.other.view_is) at c.requires.second) (rw (← c.self.view_is, ← c.other.view_is) at c.requires.shapes))

pub join_callers-requires-clause-shapes : goal.join_callers-requires-clause-shapes
join_callers-requires-clause-shapes g c = rw c.len.ensures (other_shapes _ _ _ _ (rw (← c.self.view_is) at c.requires.first) (rw (← c.other.view_is) at c.requires.second) (rw (← c.self.view_is, ← c.other.view_is) at c.requires.shapes))

pub join_callers-requires-clause-known_first : goal.join_callers-requires-clause-known_first
join_callers-requires-clause-known_first g c = rw c.path.ensures ((Extends-trans c.in_ok-attempts.ensures.extends c.in_ok-top.ensures.extends).known _ (IsGroup-path_known _ _ (IsGroupIn-group _ _ _ c.requires.first)))

pub join_callers-requires-clause-known_second : goal.join_callers-requires-clause-known_second
join_callers-requires-clause-known_second g c = rw c.path-2.ensures ((Extends-trans c.in_ok-attempts.ensures.extends c.in_ok-top.ensures.extends).known _ (IsGroup-path_known _ _ (IsGroupIn-group _ _ _ c.requires.second)))

pub join_callers-requires-clause-disjoint : goal.join_callers-requires-clause-disjoint
join_callers-requires-clause-disjoint g c = rw (c.path.ensures, c.path-2.ensures) (AreDisjoint-extends (Extends-trans c.in_ok-attempts.ensures.extends c.in_ok-top.ensures.extends) (IsGroup-path_known _ _ (IsGroupIn-group _ _ _ c.requires.first)) (IsGroup-path_known _ _ (IsGroupIn-group _ _ _ c.requires.second)) c.requires.disjoint)

pub returns-in_err-caller-clause-extends : goal.returns-in_err-caller-clause-extends
returns-in_err-caller-clause-extends g c = Extends-trans (Extends-trans c.in_ok-attempts.ensures.extends c.in_ok-top.ensures.extends) c.in_err-caller.ensures.extends

pub returns-clause-extends : goal.returns-clause-extends
returns-clause-extends g c = Extends-trans (Extends-trans c.in_ok-attempts.ensures.extends c.in_ok-top.ensures.extends) c.in_ok-caller.ensures.extends

pub returns-clause-path : goal.returns-clause-path
returns-clause-path g c =
    let callers = rw (c.len.ensures, c.path.ensures, c.path-2.ensures, ← c.self.view_is, ← c.other.view_is) at c.in_ok-caller.ensures.ok in
    let parts = join_parts _ _ c.in_ok-attempts.attempts c.in_ok-top.top c.in_ok-caller.caller c.in_ok-attempts.ensures.extends c.in_ok-top.ensures.extends c.in_ok-caller.ensures.extends c.in_ok-attempts.ensures.ok c.in_ok-top.ensures.scope c.in_ok-top.ensures.shape c.in_ok-top.ensures.ok callers in
    rw (← c.self.view_is, ← c.other.view_is) (joined_path _ _ _ _ _ (rw (← c.self.view_is) at (IsGroupIn-group _ _ _ c.requires.first)) (rw (← c.other.view_is) at (IsGroupIn-group _ _ _ c.requires.second)) parts)

pub returns-clause-ok : goal.returns-clause-ok
returns-clause-ok g c =
    let callers = rw (c.len.ensures, c.path.ensures, c.path-2.ensures, ← c.self.view_is, ← c.other.view_is) at c.in_ok-caller.ensures.ok in
    let parts = join_parts _ _ c.in_ok-attempts.attempts c.in_ok-top.top c.in_ok-caller.caller c.in_ok-attempts.ensures.extends c.in_ok-top.ensures.extends c.in_ok-caller.ensures.extends c.in_ok-attempts.ensures.ok c.in_ok-top.ensures.scope c.in_ok-top.ensures.shape c.in_ok-top.ensures.ok callers in
    rw (← c.self.view_is, ← c.other.view_is) (IsGroupOf-joined (g.met.S.Space.lawful c.join_callers.new.space) _ _ _ _ _ (rw (← c.self.view_is) at c.requires.first) (rw (← c.other.view_is) at c.requires.second) (rw (← c.self.view_is, ← c.other.view_is) at c.requires.shapes) (rw (← c.self.view_is, ← c.other.view_is) at c.requires.disjoint) parts)
