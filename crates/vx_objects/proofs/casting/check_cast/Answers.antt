use Rattle.std.proofs.Common.{◌≡◌, ◌∙◌, ap, drop}
use Rattle.std.proofs.lemmas.Result.{IfOk-weaker}
use Rattle.std.specs.Prelude.{Some, None}
use Rattle.vx_families.specs.Attempts.{row_by}
use Rattle.vx_families.proofs.AttemptLaws.{AttemptsBy-as, AttemptsBy-same}
use Rattle.vx_families.proofs.Given.{given_past}
use Rattle.vx_families.specs.Pools.{pool_class}
use Rattle.vx_group_states.specs.Answering.{answered}
use Rattle.vx_group_states.specs.Sites.{here}
use Rattle.vx_group_states.specs.Stands.{state_at}
use Rattle.vx_group_states.specs.declared.answer.Answer.TheVariants.{Give}
use Rattle.vx_java.specs.declared.operation.Operation.TheVariants.{CheckCast}
use Rattle.vx_java.proofs.Walks.{number_of}
use Rattle.vx_link.specs.ClassNames.{class_named}
use Rattle.vx_link.specs.Names.{class_name}
use Rattle.vx_link.specs.Parts.{class_at}
use Rattle.vx_space.proofs.Spaces.{Extends-refl}
use Rattle.vx_value.specs.declared.slot.Slot.TheVariants.{Null}
use Rattle.vx_objects.specs.Answers.{cast_top, without_class}
use Rattle.vx_objects.proofs.Missing.{cast_lacking, cast_named, named_there}
use Rattle.vx_objects.proofs.casting.check_cast.Goals as goal

pub resolved-requires-clause-classes : goal.resolved-requires-clause-classes
resolved-requires-clause-classes g c = c.requires.bounded.classes

pub resolved-requires-clause-for_program : goal.resolved-requires-clause-for_program
resolved-requires-clause-for_program g c = c.requires.is_for

pub cast_top-requires : goal.cast_top-requires
cast_top-requires g c = (CheckCast c.args.index, c.requires)

pub returns-in-Some-clause-ok : goal.returns-in-Some-clause-ok
returns-in-Some-clause-ok g c =
    IfOk-weaker c.cast_top.result _ _ (λ r' h'.
    let s0 = g.S.Space.sets c.args.space.now in
    let site = c.args.site.now in
    let p = site.program.now in
    let heap = c.args.heap.now in
    let group = c.args.group in
    let named : class_named p (class_name (class_at p (pool_class site group)).pool c.args.index) ≡ Some c.in-Some.wanted.0 = named_there site group c.top_frame.result.now c.class_of_method-class.result c.args.index c.resolved.result c.top_frame.ensures c.class_of_method-class.ensures c.resolved.ensures ∙ ap number_of c.in-Some.is in
    AttemptsBy-same site (λ s. cast_top (here site s) c.in-Some.wanted.0 s.top.operands) (row_by site (CheckCast c.args.index)) s0 _ heap heap group _ (λ tree d.
    let h = here site (state_at s0 heap tree group d) in
    cast_named h (class_name h.pool c.args.index) c.in-Some.wanted.0 h.state.top.operands named) h')
    c.cast_top.ensures.ok

pub without_class-requires-clause-group : goal.without_class-requires-clause-group
without_class-requires-clause-group g c = c.requires.is_group

pub without_class-requires-clause-past : goal.without_class-requires-clause-past
without_class-requires-clause-past g c = given_past c.args.site.now (CheckCast c.args.index) _ c.args.heap.now c.args.group c.requires

pub returns-in-None-clause-ok : goal.returns-in-None-clause-ok
returns-in-None-clause-ok g c =
    IfOk-weaker c.without_class.result _ _ (λ r' h'.
    let s0 = g.S.Space.sets c.args.space.now in
    let site = c.args.site.now in
    let p = site.program.now in
    let heap = c.args.heap.now in
    let group = c.args.group in
    let index = c.args.index in
    let none : class_named p (class_name (class_at p (pool_class site group)).pool index) ≡ None = named_there site group c.top_frame.result.now c.class_of_method-class.result index c.resolved.result c.top_frame.ensures c.class_of_method-class.ensures c.resolved.ensures ∙ ap number_of c.in-None.is in
    AttemptsBy-as site (CheckCast index) (row_by site (CheckCast index)) heap group (λ heap d s. without_class (here site s) index (answered s0 heap d (here site s) (drop 1 s.top.operands) (Give Null)) s.top.operands) _ (Extends-refl s0) c.without_class.ensures.extends c.requires (λ tree s d t.
    let h = here site (state_at s0 heap tree group d) in
    cast_lacking h index h.state.top.operands none) (h' heap))
    c.without_class.ensures.gives
