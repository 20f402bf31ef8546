use Rattle.std.proofs.Common.{[], ◌∷◌, sym, arith}
use Rattle.std.proofs.lemmas.List.{append-nil}
use Rattle.std.proofs.lemmas.Bool.Decides.{nat_tests}
use Rattle.vx_cond.proofs.CondLaws.{IsCond-extends}
use Rattle.vx_group.specs.Group.{path_of}
use Rattle.vx_group_states.proofs.Gathering.{IsPartOf-group}
use Rattle.vx_outcome.specs.declared.outcome.Outcome.TheVariants.{Go}
use Rattle.vx_space.proofs.Spaces.{Extends-trans}
use Rattle.vx_value.specs.Slot.{slot_cmp}
use Rattle.vx_throw.proofs.LandingLaws.{split-inside, split-landed, split-left, stays-landed, stays-left}
use Rattle.vx_throw.proofs.Within.{objects_inside}
use Rattle.vx_throw.proofs.handling.land.Goals as goal

pub returns-in_default-clause-left : goal.returns-in_default-clause-left
returns-in_default-clause-left g c = stays-left _ c.args.group c.args.leaf.now c.requires.group c.in_default.is

pub returns-in_default-clause-landed : goal.returns-in_default-clause-landed
returns-in_default-clause-landed g c = ([], sym (append-nil _), stays-landed _ c.args.group c.args.objects.now c.args.leaf.now c.in_default.is)

pub landed-requires-clause-group : goal.landed-requires-clause-group
landed-requires-clause-group g c = IsPartOf-group _ _ _ c.args.group _ c.in_ok-part.ensures.inside

pub landed-requires-clause-objects : goal.landed-requires-clause-objects
landed-requires-clause-objects g c = IsCond-extends slot_cmp c.in_ok-part.ensures.extends c.args.objects.now c.requires.objects

pub landed-requires-clause-inside : goal.landed-requires-clause-inside
landed-requires-clause-inside g c = objects_inside c.in_ok-part.ensures.extends c.args.objects.now c.requires.objects (path_of c.args.group) _ c.requires.inside (split-inside _ _ c.args.group c.in_ok-part.part _ c.in_ok-part.ensures.inside)

pub landed-requires-clause-handler : goal.landed-requires-clause-handler
landed-requires-clause-handler g c = let short = rw c.in-Some.is at c.requires.handler in grind (arith, nat_tests, short)

pub returns-in_err-landed-clause-extends : goal.returns-in_err-landed-clause-extends
returns-in_err-landed-clause-extends g c = Extends-trans c.in_ok-part.ensures.extends c.landed.ensures.extends

pub returns-in_err-push-clause-extends : goal.returns-in_err-push-clause-extends
returns-in_err-push-clause-extends g c = Extends-trans c.in_ok-part.ensures.extends c.in_ok-landed.ensures.extends

pub returns-clause-extends : goal.returns-clause-extends
returns-clause-extends g c = Extends-trans c.in_ok-part.ensures.extends c.in_ok-landed.ensures.extends

pub returns-clause-left : goal.returns-clause-left
returns-clause-left g c = split-left _ c.in_ok-landed.ensures.extends c.args.group c.in_ok-part.others c.args.leaf.now c.in-Some.handler c.in-Some.is c.in_ok-part.ensures.outside

pub returns-clause-landed : goal.returns-clause-landed
returns-clause-landed g c = (Go c.in_ok-landed.landed ∷ [], c.in_ok-push.ensures.ok, split-landed c.in_ok-part.ensures.extends c.args.group c.in_ok-part.part c.in_ok-landed.landed c.args.objects.now c.args.leaf.now c.in-Some.handler c.requires.objects c.in-Some.is c.in_ok-part.ensures.inside c.in_ok-landed.ensures.gives)
