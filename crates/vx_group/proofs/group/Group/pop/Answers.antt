use Rattle.std.proofs.Common.{sym, refl}
use Rattle.vx_group.proofs.CallerLaws.{not_both}
use Rattle.vx_group.proofs.GroupLaws.{IsGroup-path_known, IsGroupIn-group, caller_node, caller_frame, one_frame, popped_rest, popped_few, inner_few, IsPopped-made}
use Rattle.vx_group.proofs.group.Group.pop.Goals as goal

pub returns-in_default-clause-none : goal.returns-in_default-clause-none
returns-in_default-clause-none g c = (λ _. rw (← c.self.view_is) (one_frame _ _ _ (rw (← c.self.view_is) at c.requires.group) c.in_default.is), λ _. refl)

pub unreachable-requires : goal.unreachable-requires
unreachable-requires g c =
    let found = caller_node _ _ _ c.in-Some.number (rw (← c.self.view_is) at c.requires.group) c.in-Some.is in
    not_both _ found.0 (sym c.in_default-get.ensures) found.1

pub frame_inside-requires-clause-frame : goal.frame_inside-requires-clause-frame
frame_inside-requires-clause-frame g c = rw c.scope.ensures ((caller_frame _ _ _ c.in-Some.number c.in-Some-get.node.now (rw (← c.self.view_is) at c.requires.group) c.in-Some.is (sym c.in-Some-get.ensures)).0)

pub frame_inside-requires-clause-known : goal.frame_inside-requires-clause-known
frame_inside-requires-clause-known g c = rw c.scope.ensures (IsGroup-path_known _ _ (IsGroupIn-group _ _ _ (rw (← c.self.view_is) at c.requires.group)))

pub invariant_of-self : goal.invariant_of-self
invariant_of-self g c =
    let found = caller_frame _ _ _ c.in-Some.number c.in-Some-get.node.now (rw (← c.self.view_is) at c.requires.group) c.in-Some.is (sym c.in-Some-get.ensures) in
    let rest = popped_rest _ _ _ _ _ found.1.2 c.pop.ensures.some c.pop.ensures.none in
    (rw rest (popped_few _ _ found.1.0 _ found.1.2 c.self.invariant.0), rw c.replace.ensures.after (inner_few _ _ _ _ _ found.0 (rw c.scope.ensures at c.in_ok-frame.ensures.ok)))

pub returns-clause-none : goal.returns-clause-none
returns-clause-none g c =
    let found = caller_frame _ _ _ c.in-Some.number c.in-Some-get.node.now (rw (← c.self.view_is) at c.requires.group) c.in-Some.is (sym c.in-Some-get.ensures) in
    let more = found.1.2 in
    (λ e. cc, rw (← c.self.view_is) (λ e. cc))

pub returns-clause-some : goal.returns-clause-some
returns-clause-some g c =
    let valid = rw (← c.self.view_is) at c.requires.group in
    let found = caller_frame _ _ _ c.in-Some.number c.in-Some-get.node.now valid c.in-Some.is (sym c.in-Some-get.ensures) in
    let rest = popped_rest _ _ _ _ _ found.1.2 c.pop.ensures.some c.pop.ensures.none in
    rw (← c.self.view_is, c.replace.ensures.value, c.replace.ensures.after, rest) (IsPopped-made _ _ c.in-Some.number c.in-Some-get.node.now found.1.0 found.1.1 _ c.in_ok-frame.ensures.extends valid c.in-Some.is (sym c.in-Some-get.ensures) found.1.2 (rw c.scope.ensures at c.in_ok-frame.ensures.ok))
