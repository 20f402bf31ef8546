use Rattle.std.proofs.Common.{refl, ◌∙◌, ap}
use Rattle.std.proofs.lemmas.Result.{on_ok_weaker}
use Rattle.vx_space.proofs.Spaces.{Extends-trans}
use Rattle.vx_group.specs.Group.{path_of}
use Rattle.vx_group.proofs.GroupLaws.{IsGroupIn-group, IsGroup-path_known}
use Rattle.vx_heap.proofs.HeapLaws.{IsHeap-extends}
use Rattle.vx_java.specs.Step.{utf8_of}
use Rattle.vx_value.specs.Texts.{text_at}
use Rattle.vx_group_states.proofs.StateLaws.{StandsIn-extends}
use Rattle.vx_placing.proofs.Going.{AreWritten-text, IsPut-text, IsUnderway-text, IsVacant-text, bound_later}
use Rattle.vx_placing.proofs.placing.write.Goals as goal

pub put_text-requires-clause-texts : goal.put_text-requires-clause-texts
put_text-requires-clause-texts g c = c.requires.going.underway.texts

pub put_text-requires-clause-known : goal.put_text-requires-clause-known
put_text-requires-clause-known g c = rw c.path.ensures (IsGroup-path_known _ c.args.group (IsGroupIn-group _ c.args.round.now.callers c.args.group c.requires.going.stands.is_group))

pub put_text-requires-clause-apart : goal.put_text-requires-clause-apart
put_text-requires-clause-apart g c = rw c.path.ensures (record { none = c.requires.unwritten.texts })

pub go_on-requires : goal.go_on-requires
go_on-requires g c = record {
  is_heap = IsHeap-extends c.in_ok-put_text.ensures.extends c.args.setting.now.heap.now c.requires.going.is_heap;
  underway = IsUnderway-text c.args.setting.now.program.now c.in_ok-put_text.ensures.extends c.args.setting.now.heap.now c.requires.going.is_heap c.args.setting.now.limit c.args.round.now _ c.requires.going.underway refl refl refl refl c.in_ok-put_text.ensures.put.are_leaves;
  stands = StandsIn-extends c.args.setting.now.program.now c.args.round.now.callers c.in_ok-put_text.ensures.extends c.args.setting.now.heap.now c.requires.going.is_heap c.args.group c.requires.going.stands;
  bound = bound_later c.args.setting.now.program.now c.in_ok-put_text.ensures.extends c.args.setting.now.heap.now c.args.setting.now.limit c.args.group c.requires.going.stands c.requires.going.bound;
  vacant = IsVacant-text c.args.setting.now.program.now c.in_ok-put_text.ensures.extends c.args.setting.now.heap.now c.requires.going.is_heap c.args.setting.now.limit c.args.round.now _ (path_of c.args.group) (IsGroup-path_known _ c.args.group (IsGroupIn-group _ c.args.round.now.callers c.args.group c.requires.going.stands.is_group)) c.requires.going.underway c.requires.going.vacant refl refl refl;
}

pub returns-clause-extends : goal.returns-clause-extends
returns-clause-extends g c = Extends-trans c.in_ok-put_text.ensures.extends c.go_on.ensures.extends

pub returns-clause-put : goal.returns-clause-put
returns-clause-put g c =
    on_ok_weaker c.go_on.result
    (λ gone. IsPut-text c.args.setting.now.program.now _ c.in_ok-put_text.ensures.extends c.args.setting.now.heap.now c.requires.going.is_heap c.args.setting.now.limit c.args.group c.args.round.now (record (c.args.round.now) { texts = c.put_text.new.texts }) c.go_on.new.round c.requires.going.stands c.requires.going.underway refl refl refl refl gone.put)
    c.go_on.ensures.gone

pub returns-clause-written : goal.returns-clause-written
returns-clause-written g c =
    let put = rw c.path.ensures at c.in_ok-put_text.ensures.put in
    on_ok_weaker c.go_on.result
    (λ gone. AreWritten-text {s0 = g.S.Space.sets c.args.space.now} c.go_on.ensures.extends (path_of c.args.group) c.args.stream (text_at c.args.setting.now.heap.now.texts c.args.text) c.in_ok-bytes.bytes.items _ c.args.round.now (record (c.args.round.now) { texts = c.put_text.new.texts }) c.go_on.new.round (c.in_ok-bytes.ensures ∙ ap utf8_of (c.text.ensures ∙ ap (λ texts. text_at texts c.args.text) c.texts.ensures)) put gone.texts)
    c.go_on.ensures.gone
