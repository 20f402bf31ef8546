use Rattle.std.proofs.Common.{◌∙◌, sym}
use Rattle.vx_cond.proofs.CondLaws.{IsCond-extends}
use Rattle.vx_group.specs.Group.{path_of}
use Rattle.vx_group.proofs.GroupLaws.{IsGroup-extends, IsGroup-path_known}
use Rattle.vx_group_states.proofs.Gathering.{AreLeaves-of, IsPartOf-group}
use Rattle.vx_space.proofs.Spaces.{Extends-trans}
use Rattle.vx_value.specs.Slot.{slot_cmp}
use Rattle.vx_throw.proofs.HandledLaws.{IsHandled-made, thrown_inside}
use Rattle.vx_throw.proofs.Within.{objects_inside}
use Rattle.vx_throw.specs.Landings.{handler_cmp}
use Rattle.vx_throw.proofs.handling.handle.Goals as goal

pub handlers-requires-clause-classes : goal.handlers-requires-clause-classes
handlers-requires-clause-classes g c = c.requires.bounded.classes

pub handlers-requires-clause-objects : goal.handlers-requires-clause-objects
handlers-requires-clause-objects g c = c.requires.thrown.is_cond

pub land_all-requires-clause-group : goal.land_all-requires-clause-group
land_all-requires-clause-group g c = IsGroup-extends c.in_ok-handlers.ensures.extends c.args.flight.group c.requires.group

pub land_all-requires-clause-objects : goal.land_all-requires-clause-objects
land_all-requires-clause-objects g c = IsCond-extends slot_cmp c.in_ok-handlers.ensures.extends c.args.flight.objects c.requires.thrown.is_cond

pub land_all-requires-clause-inside : goal.land_all-requires-clause-inside
land_all-requires-clause-inside g c = objects_inside c.in_ok-handlers.ensures.extends c.args.flight.objects c.requires.thrown.is_cond (path_of c.args.flight.group) _ (thrown_inside _ c.args.heap.now c.args.flight.group c.args.flight.objects c.requires.thrown) (λ d t. sym (c.in_ok-handlers.ensures.extends.test (path_of c.args.flight.group) d (IsGroup-path_known _ c.args.flight.group c.requires.group)) ∙ t)

pub land_all-requires-clause-leaves : goal.land_all-requires-clause-leaves
land_all-requires-clause-leaves g c = rw c.leaves.ensures (AreLeaves-of handler_cmp _ c.in_ok-handlers.handlers c.in_ok-handlers.ensures.cond)

pub land_all-requires-clause-short : goal.land_all-requires-clause-short
land_all-requires-clause-short g c = rw c.leaves.ensures c.in_ok-handlers.ensures.short

pub restrict-requires-clause-valid : goal.restrict-requires-clause-valid
restrict-requires-clause-valid g c = IsCond-extends slot_cmp (Extends-trans c.in_ok-handlers.ensures.extends c.in_ok-group.ensures.extends) c.args.flight.objects c.requires.thrown.is_cond

pub restrict-requires-clause-known : goal.restrict-requires-clause-known
restrict-requires-clause-known g c = rw c.path.ensures (IsGroup-path_known _ c.in_ok-group.group (IsPartOf-group _ _ _ c.args.flight.group _ c.in_ok-group.ensures.left))

pub returns-in_err-group-clause-extends : goal.returns-in_err-group-clause-extends
returns-in_err-group-clause-extends g c = Extends-trans c.in_ok-handlers.ensures.extends c.land_all.ensures.extends

pub returns-in_err-objects-clause-extends : goal.returns-in_err-objects-clause-extends
returns-in_err-objects-clause-extends g c = Extends-trans (Extends-trans c.in_ok-handlers.ensures.extends c.in_ok-group.ensures.extends) c.restrict.ensures.extends

pub returns-clause-extends : goal.returns-clause-extends
returns-clause-extends g c = Extends-trans (Extends-trans c.in_ok-handlers.ensures.extends c.in_ok-group.ensures.extends) c.in_ok-objects.ensures.extends

pub returns-clause-handled : goal.returns-clause-handled
returns-clause-handled g c =
    let landed = rw c.leaves.ensures at c.in_ok-group.ensures.landed in
    let left = rw c.leaves.ensures at c.in_ok-group.ensures.left in
    IsHandled-made c.args.program.now c.in_ok-handlers.ensures.extends c.in_ok-group.ensures.extends c.in_ok-objects.ensures.extends c.args.heap.now c.args.flight c.in_ok-group.group _ c.requires.group c.requires.thrown c.in_ok-handlers.ensures.at (g.met.S.Space.lawful c.restrict.new.space) c.in_ok-objects.objects c.in_ok-group.outcomes.items.items left landed (rw c.path.ensures at c.in_ok-objects.ensures.ok)
