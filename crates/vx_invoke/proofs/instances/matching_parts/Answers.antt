use Rattle.vx_group.proofs.GroupLaws.{IsGroupIn-group}
use Rattle.vx_group_states.proofs.Gathering.{IsPartOf-group}
use Rattle.vx_space.proofs.Spaces.{Extends-trans}
use Rattle.vx_invoke.proofs.Matching.{calls_known, matching-gives, matching_cover, matching_enter, matching_in, matching_leaves}
use Rattle.vx_invoke.proofs.instances.matching_parts.Goals as goal

pub split-requires-clause-group : goal.split-requires-clause-group
split-requires-clause-group g c = IsGroupIn-group _ c.args.callers.now c.args.group c.requires.group

pub split-requires-clause-known : goal.split-requires-clause-known
split-requires-clause-known g c = rw c.scope.ensures (calls_known _ c.args.calls.now c.requires.calls)

pub ended_part-requires : goal.ended_part-requires
ended_part-requires g c = IsPartOf-group _ _ _ c.args.group _ c.in_ok-calling.ensures.outside

pub called_parts-requires-clause-group : goal.called_parts-requires-clause-group
called_parts-requires-clause-group g c = matching_in c.args.site.now c.args.callers.now c.args.group c.in_ok-calling.calling c.args.count c.args.calls.now c.scope.result c.leaves.result.now c.scope.ensures c.leaves.ensures c.in_ok-calling.ensures.extends c.requires.calls c.requires.enter c.in_ok-calling.ensures.inside c.requires.group

pub called_parts-requires-clause-leaves : goal.called_parts-requires-clause-leaves
called_parts-requires-clause-leaves g c = matching_leaves c.args.site.now c.args.callers.now c.args.group c.in_ok-calling.calling c.args.count c.args.calls.now c.scope.result c.leaves.result.now c.scope.ensures c.leaves.ensures c.in_ok-calling.ensures.extends c.requires.calls c.requires.enter c.in_ok-calling.ensures.inside

pub called_parts-requires-clause-cover : goal.called_parts-requires-clause-cover
called_parts-requires-clause-cover g c = matching_cover c.args.site.now c.args.callers.now c.args.group c.in_ok-calling.calling c.args.count c.args.calls.now c.scope.result c.leaves.result.now c.scope.ensures c.leaves.ensures c.in_ok-calling.ensures.extends c.requires.calls c.requires.enter c.in_ok-calling.ensures.inside

pub called_parts-requires-clause-enter : goal.called_parts-requires-clause-enter
called_parts-requires-clause-enter g c = matching_enter c.args.site.now c.args.callers.now c.args.group c.in_ok-calling.calling c.args.count c.args.calls.now c.scope.result c.leaves.result.now c.scope.ensures c.leaves.ensures c.in_ok-calling.ensures.extends c.requires.calls c.requires.enter c.in_ok-calling.ensures.inside

pub returns-in_err-append-clause-extends : goal.returns-in_err-append-clause-extends
returns-in_err-append-clause-extends g c = Extends-trans c.in_ok-calling.ensures.extends c.in_ok-outcomes.ensures.extends

pub returns-clause-extends : goal.returns-clause-extends
returns-clause-extends g c = Extends-trans c.in_ok-calling.ensures.extends c.in_ok-outcomes.ensures.extends

pub returns-clause-gives : goal.returns-clause-gives
returns-clause-gives g c = λ heap. rw c.in_ok-append.ensures.ok (matching-gives c.args.site.now c.args.callers.now c.args.group c.in_ok-calling.calling c.args.count c.args.calls.now c.scope.result c.leaves.result.now c.scope.ensures c.leaves.ensures c.in_ok-calling.ensures.extends c.requires.calls c.requires.enter c.in_ok-calling.ensures.inside _ c.called_parts.new.callers _ _ _ heap c.in_ok-outcomes.ensures.extends c.in_ok-outcomes.ensures.keeps c.in_ok-calling.ensures.outside (c.in_ok-outcomes.ensures.gives heap) c.in_ok-ended.ensures)
