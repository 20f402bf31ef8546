use Rattle.std.proofs.Common.{◌<◌, ◌≤◌, ◌∙◌, arith, length}
use Rattle.std.proofs.lemmas.Result.{IfOk-weaker}
use Rattle.vx_cells.specs.Places.{place_cmp}
use Rattle.vx_cond.proofs.CondLaws.{IsCond-extends}
use Rattle.vx_families.proofs.Given.{IsGiven-extends, given_ready}
use Rattle.vx_java.specs.Fields.{Found, put_into}
use Rattle.vx_space.proofs.Spaces.{Extends-trans}
use Rattle.vx_objects.proofs.FieldRows.{write_none}
use Rattle.vx_families.proofs.Operands.{few-attempts}
use Rattle.vx_objects.proofs.Reaching.{put-attempts}
use Rattle.vx_objects.proofs.fields.put_found.Goals as goal

pub returns-then-len-lt2-clause-ok : goal.returns-then-len-lt2-clause-ok
returns-then-len-lt2-clause-ok g c =
    let found : Found = record { named = c.args.named.0; field = c.args.field.0; type = c.args.field_type } in
    let few : length c.args.group.top.stack.conds < 2 = rw (← c.top_frame.ensures, ← c.len.ensures) (omega arith) in
    IfOk-weaker c.illegal.result _ _ (λ r gives. few-attempts c.args.site.now c.requires.0 (λ h. put_into h found) c.args.heap.now c.args.group c.requires.1 2 r.items.items few (λ h. write_none h found) (gives _)) c.illegal.ensures

pub passes_at-requires-clause-classes : goal.passes_at-requires-clause-classes
passes_at-requires-clause-classes g c = c.requires.1.bounded.classes

pub put_through-requires-clause-given : goal.put_through-requires-clause-given
put_through-requires-clause-given g c = c.requires

pub put_through-requires-clause-operands : goal.put_through-requires-clause-operands
put_through-requires-clause-operands g c = rw (← c.top_frame.ensures, ← c.len.ensures) (omega arith)

pub passes_at-requires-clause-places : goal.passes_at-requires-clause-places
passes_at-requires-clause-places g c =
    let put = c.in_ok-places.ensures.put in
    IsCond-extends place_cmp (Extends-trans put.values_extend put.writing_extends) c.in_ok-places.places put.valid

pub carry_out-requires-clause-ready : goal.carry_out-requires-clause-ready
carry_out-requires-clause-ready g c =
    let some : 2 ≤ length c.args.group.top.stack.conds = rw (← c.top_frame.ensures, ← c.len.ensures) (omega arith) in
    let e = Extends-trans c.in_ok-places.ensures.extends c.in_ok-answers.ensures.extends in
    given_ready c.args.site.now c.requires.0 _ c.args.heap.now c.args.group 2 c.in_ok-answers.answers (IsGiven-extends c.args.site.now c.requires.0 c.args.heap.now c.args.group e c.requires.1) (omega arith) some (rw (← c.group.view_is) c.group.invariant.1) c.in_ok-answers.ensures.ok.is_cond (c.in_ok-answers.ensures.ok.scope ∙ c.in_ok-places.ensures.put.scope)

pub carry_out-requires-clause-scope : goal.carry_out-requires-clause-scope
carry_out-requires-clause-scope g c = c.in_ok-answers.ensures.ok.scope ∙ c.in_ok-places.ensures.put.scope

pub returns-clause-extends : goal.returns-clause-extends
returns-clause-extends g c = Extends-trans c.in_ok-places.ensures.extends (Extends-trans c.in_ok-answers.ensures.extends c.carry_out.ensures.extends)

pub returns-clause-ok : goal.returns-clause-ok
returns-clause-ok g c =
    let found : Found = record { named = c.args.named.0; field = c.args.field.0; type = c.args.field_type } in
    let some : 2 ≤ length c.args.group.top.stack.conds = rw (← c.top_frame.ensures, ← c.len.ensures) (omega arith) in
    let put = c.in_ok-places.ensures.put in
    IfOk-weaker c.carry_out.result _ _ (λ r gives. put-attempts c.args.site.now c.requires.0 found _ put.placed put.valued _ _ _ c.args.heap.now c.put_through.new.heap c.passes_at.new.heap c.args.group c.in_ok-places.places put.values c.in_ok-answers.answers r.items.items c.requires.1 some put.places_extend put.valid put.scope put.at put.values_extend put.value put.writing_extends put.changed c.in_ok-answers.ensures.extends c.in_ok-answers.ensures.more c.in_ok-answers.ensures.ok c.carry_out.ensures.extends gives) c.carry_out.ensures.gives

pub returns-in_err-answers-clause-extends : goal.returns-in_err-answers-clause-extends
returns-in_err-answers-clause-extends g c = Extends-trans c.in_ok-places.ensures.extends c.in_err-answers.ensures.extends
