use Rattle.vx_cond.proofs.CondLaws.{IsCond-extends}
use Rattle.vx_cond.proofs.LeafLoops.{next_known}
use Rattle.vx_group.specs.Group.{path_of}
use Rattle.vx_group_states.proofs.Gathering.{IsPartOf-group}
use Rattle.vx_heap.proofs.Places.{passes_here}
use Rattle.vx_space.proofs.Spaces.{Extends-trans}
use Rattle.vx_value.specs.Slot.{slot_cmp}
use Rattle.vx_throw.proofs.LandingLaws.{IsLanding-end, IsLanding-inside, IsLanding-start, IsLanding-step}
use Rattle.vx_throw.proofs.Within.{objects_inside}
use Rattle.vx_throw.specs.Landings.{handler_cmp, is_short_handler}
use Rattle.vx_throw.proofs.handling.land_all.Goals as goal

pub loop-leaf-init : goal.loop-leaf-init
loop-leaf-init g c = rw c.new-outcomes.ensures (IsLanding-start _ c.args.group c.args.objects.now c.args.handlers.now c.requires.group)

pub land-requires-clause-group : goal.land-requires-clause-group
land-requires-clause-group g c = IsPartOf-group _ _ _ c.args.group _ c.loop-leaf.invariant.left

pub land-requires-clause-objects : goal.land-requires-clause-objects
land-requires-clause-objects g c = IsCond-extends slot_cmp c.loop-leaf.invariant.extends c.args.objects.now c.requires.objects

pub land-requires-clause-inside : goal.land-requires-clause-inside
land-requires-clause-inside g c = objects_inside c.loop-leaf.invariant.extends c.args.objects.now c.requires.objects (path_of c.args.group) _ c.requires.inside (IsLanding-inside _ _ c.args.group c.args.objects.now c.args.handlers.now _ c.loop-leaf.rest _ c.loop-leaf.invariant)

pub land-requires-clause-known : goal.land-requires-clause-known
land-requires-clause-known g c = next_known handler_cmp c.args.handlers.now _ c.leaf-item.result c.requires.leaves c.loop-leaf-test.true c.leaf-item.is c.loop-leaf.invariant.extends

pub land-requires-clause-handler : goal.land-requires-clause-handler
land-requires-clause-handler g c = passes_here (λ leaf. is_short_handler leaf.value) c.args.handlers.now _ c.leaf-item.result c.requires.short c.loop-leaf-test.true c.leaf-item.is

pub returns-in_err-rest-clause-extends : goal.returns-in_err-rest-clause-extends
returns-in_err-rest-clause-extends g c = Extends-trans c.loop-leaf.invariant.extends c.land.ensures.extends

pub loop-leaf-preserved : goal.loop-leaf-preserved
loop-leaf-preserved g c =
    let more = c.in_ok-rest.ensures.landed in
    rw more.1 (IsLanding-step c.args.group c.args.objects.now c.args.handlers.now c.loop-leaf.leaf-index c.leaf-item.result c.loop-leaf.rest _ c.loop-leaf.outcomes.items.items more.0 c.requires.objects c.requires.leaves c.loop-leaf-test.true c.leaf-item.is c.loop-leaf.invariant c.in_ok-rest.ensures.extends c.in_ok-rest.ensures.left more.2)

pub returns-clause-extends : goal.returns-clause-extends
returns-clause-extends g c = c.loop-leaf.invariant.extends

pub returns-clause-left : goal.returns-clause-left
returns-clause-left g c = (IsLanding-end _ _ c.args.group c.args.objects.now c.args.handlers.now _ c.loop-leaf.rest _ c.loop-leaf.invariant c.loop-leaf-test.false).0

pub returns-clause-landed : goal.returns-clause-landed
returns-clause-landed g c = (IsLanding-end _ _ c.args.group c.args.objects.now c.args.handlers.now _ c.loop-leaf.rest _ c.loop-leaf.invariant c.loop-leaf-test.false).1
