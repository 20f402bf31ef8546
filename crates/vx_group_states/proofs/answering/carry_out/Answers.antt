use Rattle.std.proofs.lemmas.Result.{IfOk-weaker}
use Rattle.vx_space.proofs.Spaces.{Extends-trans}
use Rattle.vx_group.proofs.GroupLaws.{IsGroup-path_known}
use Rattle.vx_group_states.specs.Answering.{answered_by}
use Rattle.vx_group_states.proofs.EndingLaws.{GivesAt-before}
use Rattle.vx_group_states.proofs.KindLaws.{AreHeld-extends, AreKinds-mapped, IsReady-later, answered_by-extends}
use Rattle.vx_group_states.proofs.answering.carry_out.Goals as goal

pub answered_parts-requires-clause-ready : goal.answered_parts-requires-clause-ready
answered_parts-requires-clause-ready g c = IsReady-later c.args.site.now c.args.group c.args.taken c.args.answers.now c.in_ok-kinds.ensures.extends c.requires.ready

pub answered_parts-requires-clause-kinds : goal.answered_parts-requires-clause-kinds
answered_parts-requires-clause-kinds g c = rw c.leaves.ensures (AreKinds-mapped _ _ c.args.answers.now c.in_ok-kinds.kinds c.in_ok-kinds.ensures.extends (λ a b h. h) c.requires.ready.are_answers c.requires.scope (IsGroup-path_known _ c.args.group c.requires.ready.is_group) c.in_ok-kinds.ensures.ok c.in_ok-kinds.ensures.scope)

pub returns-clause-extends : goal.returns-clause-extends
returns-clause-extends g c = Extends-trans c.in_ok-kinds.ensures.extends c.answered_parts.ensures.extends

pub returns-clause-gives : goal.returns-clause-gives
returns-clause-gives g c =
    IfOk-weaker c.answered_parts.result _ _ (λ r' h'.
    λ heap held tree h s.
    let e = c.in_ok-kinds.ensures.extends in
    let ready = c.requires.ready in
    GivesAt-before c.args.site.now.program.now _ c.args.group heap (answered_by c.args.site.now c.args.taken (g.S.Space.sets c.map.new.space) c.args.answers.now) (answered_by c.args.site.now c.args.taken (g.S.Space.sets c.args.space.now) c.args.answers.now) _ e (λ _ now _ d t. answered_by-extends c.args.site.now c.args.taken e c.args.answers.now ready.are_answers heap now d _) (h' heap (AreHeld-extends e _ c.args.answers.now (IsGroup-path_known _ c.args.group ready.is_group) ready.are_answers heap h held)) tree h s)
    c.answered_parts.ensures.gives
