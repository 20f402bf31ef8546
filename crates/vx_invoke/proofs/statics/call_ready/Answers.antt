use Rattle.std.proofs.Common.{◌∙◌, ap}
use Rattle.vx_group.proofs.GroupLaws.{IsGroup-path_known, IsGroupIn-group}
use Rattle.vx_group_states.proofs.Gathering.{IsPartOf-group}
use Rattle.vx_invoke.specs.Called.{by_selected}
use Rattle.vx_invoke.proofs.ReadyCalls.{going_enters, going_in, none-gives, some-gives}
use Rattle.vx_invoke.proofs.statics.call_ready.Goals as goal

pub stop_others-requires-clause-group : goal.stop_others-requires-clause-group
stop_others-requires-clause-group g c = IsGroupIn-group _ c.args.callers.now c.args.group c.requires.group

pub is_never-requires : goal.is_never-requires
is_never-requires g c = rw c.path.ensures (IsGroup-path_known _ c.in_ok-calling.calling (IsPartOf-group _ _ _ c.args.group _ c.in_ok-calling.ensures.going))

pub returns-then-is_never-clause-gives : goal.returns-then-is_never-clause-gives
returns-then-is_never-clause-gives g c = λ heap. none-gives c.args.site.now c.args.callers.now c.args.group c.in_ok-calling.calling c.args.method c.args.readiness.now c.in_ok-calling.ensures.going c.class_of_method-class.result c.class_of_method-class.ensures c.args.needs c.args.count _ heap (c.in_ok-calling.ensures.others heap) (g.met.S.Space.lawful c.stop_others.new.space) c.path.result c.path.ensures (c.is_never.ensures.0 c.if-is_never.true)

pub called_part-requires-clause-group : goal.called_part-requires-clause-group
called_part-requires-clause-group g c = going_in c.args.site.now c.args.callers.now c.args.group c.in_ok-calling.calling c.args.method c.args.readiness.now c.in_ok-calling.ensures.going c.in_ok-calling.ensures.extends c.requires.group

pub called_part-requires-clause-enter : goal.called_part-requires-clause-enter
called_part-requires-clause-enter g c = going_enters c.args.site.now c.args.callers.now c.args.group c.in_ok-calling.calling c.args.method c.args.readiness.now c.in_ok-calling.ensures.going c.args.count c.by_selected-call.result c.requires.enough c.requires.enter (c.by_selected-call.ensures ∙ ap (by_selected c.args.site.now.program.now) c.selected_if_concrete.ensures)

pub returns-clause-gives : goal.returns-clause-gives
returns-clause-gives g c = λ heap. rw c.in_ok-append.ensures.ok (some-gives c.args.site.now c.args.callers.now c.args.group c.in_ok-calling.calling c.args.method c.args.readiness.now c.in_ok-calling.ensures.going c.class_of_method-class.result c.class_of_method-class.ensures c.args.needs c.args.count _ heap (c.in_ok-calling.ensures.others heap) c.called_part.new.callers c.by_selected-call.result _ c.in_ok-calling.ensures.extends c.in_ok-made.ensures.keeps (c.by_selected-call.ensures ∙ ap (by_selected c.args.site.now.program.now) c.selected_if_concrete.ensures) (c.in_ok-made.ensures.gives heap))
