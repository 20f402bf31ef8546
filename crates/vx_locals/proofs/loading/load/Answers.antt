use Rattle.std.proofs.Common.{◌≡◌, ◌≤◌, Bool, List, true, ◌∙◌, ap, sym, length}
use Rattle.std.proofs.lemmas.Result.{IfOk-weaker}
use Rattle.vx_space.proofs.Spaces.{Extends-trans}
use Rattle.vx_cond.proofs.RowSteps.{IsRow-get}
use Rattle.vx_cond.specs.Slots.{slot_at}
use Rattle.vx_group.specs.Group.{path_of}
use Rattle.vx_families.specs.Pushing.{is_push}
use Rattle.vx_frame.proofs.FrameLaws.{IsFrame-locals}
use Rattle.vx_group.proofs.GroupLaws.{IsGroup-extends, IsGroup-one_scope, IsGroup-path_known, IsGroup-top}
use Rattle.vx_group_states.specs.Answers.{answer_cmp}
use Rattle.vx_group_states.proofs.SettleLaws.{lifting_cond}
use Rattle.vx_value.specs.Slot.{slot_cmp}
use Rattle.vx_locals.proofs.Loads.{load-gives, load_none, loaded_at, loaded_pushes}
use Rattle.vx_locals.proofs.loading.load.Goals as goal

pub returns-then-len-from-clause-gives : goal.returns-then-len-from-clause-gives
returns-then-len-from-clause-gives g c =
    let past : length c.args.group.top.locals.conds ≤ c.args.place = rw (← c.top_frame.ensures, ← c.len.ensures, ← c.from.ensures) c.if-len-from.true in
    IfOk-weaker c.illegal.result _ _ (λ r h. load_none c.args.site.now _ c.args.group c.args.sort c.args.place _ past (h _)) c.illegal.ensures

pub map-requires-clause-valid : goal.map-requires-clause-valid
map-requires-clause-valid g c = (IsRow-get slot_cmp _ c.args.group.top.locals c.args.place c.get.result.now (IsFrame-locals _ c.args.group.top (IsGroup-top _ c.args.group c.requires.group)) (rw (c.top_frame.ensures, c.from-2.ensures) at c.get.ensures)).0

pub push_answers-requires-clause-group : goal.push_answers-requires-clause-group
push_answers-requires-clause-group g c = IsGroup-extends c.in_ok-answers.ensures.extends c.args.group c.requires.group

pub push_answers-requires-clause-answers : goal.push_answers-requires-clause-answers
push_answers-requires-clause-answers g c = lifting_cond answer_cmp _ _ _ c.in_ok-answers.answers c.in_ok-answers.ensures.ok

pub push_answers-requires-clause-scope : goal.push_answers-requires-clause-scope
push_answers-requires-clause-scope g c = c.in_ok-answers.ensures.scope ∙ (IsRow-get slot_cmp _ c.args.group.top.locals c.args.place c.get.result.now (IsFrame-locals _ c.args.group.top (IsGroup-top _ c.args.group c.requires.group)) (rw (c.top_frame.ensures, c.from-2.ensures) at c.get.ensures)).1 ∙ IsGroup-one_scope _ c.args.group c.requires.group

pub push_answers-requires-clause-pushes : goal.push_answers-requires-clause-pushes
push_answers-requires-clause-pushes g c =
    let start = g.S.Space.sets c.args.space.now in
    let local = IsRow-get slot_cmp _ c.args.group.top.locals c.args.place c.get.result.now (IsFrame-locals _ c.args.group.top (IsGroup-top _ c.args.group c.requires.group)) (rw (c.top_frame.ensures, c.from-2.ensures) at c.get.ensures) in
    let in_path : (d : List Bool) → start.test (path_of c.args.group) d ≡ true → start.test c.get.result.now.scope d ≡ true = λ d t. ap (λ i. start.test i d) (local.1 ∙ IsGroup-one_scope _ c.args.group c.requires.group) ∙ t in
    λ d t. ap is_push (loaded_at start _ _ c.args.sort c.get.result.now c.in_ok-answers.answers (λ a b h. h) local.0 c.in_ok-answers.ensures.ok d (in_path d (sym (c.in_ok-answers.ensures.extends.test (path_of c.args.group) d (IsGroup-path_known _ c.args.group c.requires.group)) ∙ t))) ∙ loaded_pushes c.args.sort (slot_at start c.get.result.now d)

pub returns-clause-extends : goal.returns-clause-extends
returns-clause-extends g c = Extends-trans c.in_ok-answers.ensures.extends c.push_answers.ensures.extends

pub returns-clause-gives : goal.returns-clause-gives
returns-clause-gives g c =
    let start = g.S.Space.sets c.args.space.now in
    let local = IsRow-get slot_cmp _ c.args.group.top.locals c.args.place c.get.result.now (IsFrame-locals _ c.args.group.top (IsGroup-top _ c.args.group c.requires.group)) (rw (c.top_frame.ensures, c.from-2.ensures) at c.get.ensures) in
    let in_path : (d : List Bool) → start.test (path_of c.args.group) d ≡ true → start.test c.get.result.now.scope d ≡ true = λ d t. ap (λ i. start.test i d) (local.1 ∙ IsGroup-one_scope _ c.args.group c.requires.group) ∙ t in
    IfOk-weaker c.push_answers.result _ _ (λ r h. load-gives c.args.site.now _ c.args.group c.args.sort c.args.place c.get.result.now c.in_ok-answers.answers _ c.in_ok-answers.ensures.extends c.requires.group (rw (c.top_frame.ensures, c.from-2.ensures) at c.get.ensures) (λ d t. loaded_at start _ _ c.args.sort c.get.result.now c.in_ok-answers.answers (λ a b h. h) local.0 c.in_ok-answers.ensures.ok d (in_path d t)) h) c.push_answers.ensures.gives
