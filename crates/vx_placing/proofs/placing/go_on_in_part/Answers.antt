use Rattle.std.proofs.Common.{◌∙◌, arith}
use Rattle.std.proofs.lemmas.Result.{on_ok_weaker}
use Rattle.vx_space.proofs.Spaces.{Extends-trans}
use Rattle.vx_group.proofs.GroupLaws.{IsGroupIn-group, IsGroup-attempts, IsGroup-path_known}
use Rattle.vx_heap.proofs.HeapLaws.{IsHeap-extends}
use Rattle.vx_group_states.proofs.Gathering.{IsPartOf-group}
use Rattle.vx_placing.proofs.Going.{IsPut-parted, ended_vacant, left_attempts, left_stands, left_vacant, used_put}
use Rattle.vx_placing.proofs.Putting.{IsUnderway-extends, MayEnd-vacant}
use Rattle.vx_placing.proofs.placing.go_on_in_part.Goals as goal

pub split-requires-clause-group : goal.split-requires-clause-group
split-requires-clause-group g c = IsGroupIn-group _ c.args.round.now.callers c.args.group c.requires.going.stands.is_group

pub split-requires-clause-known : goal.split-requires-clause-known
split-requires-clause-known g c = c.requires.used.0

pub give_up-requires : goal.give_up-requires
give_up-requires g c =
    let part = IsPartOf-group _ _ _ c.args.group c.in_ok-done.done c.in_ok-done.ensures.inside in
    let vacant = ended_vacant c.args.setting.now.program.now c.in_ok-done.ensures.extends c.args.setting.now.heap.now c.requires.going.is_heap c.args.setting.now.limit c.args.group c.in_ok-done.done c.args.used c.args.round.now c.requires.going.underway c.requires.going.vacant c.in_ok-done.ensures.inside in
    MayEnd-vacant c.args.setting.now.program.now _ c.args.setting.now.heap.now c.args.setting.now.limit c.args.round.now c.in_ok-done.done.attempts _ (IsUnderway-extends c.args.setting.now.program.now c.in_ok-done.ensures.extends c.args.setting.now.heap.now c.requires.going.is_heap c.args.setting.now.limit c.args.round.now c.requires.going.underway) (IsGroup-attempts _ c.in_ok-done.done part) (IsGroup-path_known _ c.in_ok-done.done part) vacant

pub returns-in_err-give_up-clause-extends : goal.returns-in_err-give_up-clause-extends
returns-in_err-give_up-clause-extends g c = Extends-trans c.in_ok-done.ensures.extends c.in_err-give_up.ensures.extends

pub wait-requires-clause-left : goal.wait-requires-clause-left
wait-requires-clause-left g c = left_attempts c.args.setting.now.program.now c.in_ok-done.ensures.extends c.in_ok-give_up.ensures.extends c.args.setting.now.heap.now c.requires.going.is_heap c.args.setting.now.limit c.args.group c.in_ok-done.going c.args.used c.requires.going.stands c.requires.used c.requires.going.bound c.in_ok-done.ensures.outside

pub wait-requires-clause-going : goal.wait-requires-clause-going
wait-requires-clause-going g c = record {
  is_heap = IsHeap-extends (Extends-trans c.in_ok-done.ensures.extends c.in_ok-give_up.ensures.extends) c.args.setting.now.heap.now c.requires.going.is_heap;
  underway = (used_put c.args.setting.now.program.now c.in_ok-done.ensures.extends c.in_ok-give_up.ensures.extends c.args.setting.now.heap.now c.requires.going.is_heap c.args.setting.now.limit c.args.group c.in_ok-done.done c.args.used c.args.round.now c.give_up.new.round c.requires.going.underway c.requires.going.vacant c.in_ok-done.ensures.inside c.in_ok-give_up.ensures.ended).underway;
  stands = rw c.in_ok-give_up.ensures.ended.callers (left_stands c.args.setting.now.program.now c.in_ok-done.ensures.extends c.in_ok-give_up.ensures.extends c.args.setting.now.heap.now c.requires.going.is_heap c.args.group c.in_ok-done.going c.args.used c.requires.going.stands c.in_ok-done.ensures.outside);
  bound = λ d t.
      let left = left_attempts c.args.setting.now.program.now c.in_ok-done.ensures.extends c.in_ok-give_up.ensures.extends c.args.setting.now.heap.now c.requires.going.is_heap c.args.setting.now.limit c.args.group c.in_ok-done.going c.args.used c.requires.going.stands c.requires.used c.requires.going.bound c.in_ok-done.ensures.outside d t in
      omega (arith, left);
  vacant = left_vacant c.args.setting.now.program.now c.in_ok-done.ensures.extends c.in_ok-give_up.ensures.extends c.args.setting.now.heap.now c.requires.going.is_heap c.args.setting.now.limit c.args.group c.in_ok-done.done c.in_ok-done.going c.args.used c.args.round.now c.give_up.new.round c.requires.going.underway c.requires.going.vacant c.in_ok-done.ensures.inside c.in_ok-done.ensures.outside c.in_ok-give_up.ensures.ended;
}

pub returns-clause-extends : goal.returns-clause-extends
returns-clause-extends g c = Extends-trans (Extends-trans c.in_ok-done.ensures.extends c.in_ok-give_up.ensures.extends) c.wait.ensures.extends

pub returns-clause-gone : goal.returns-clause-gone
returns-clause-gone g c =
    on_ok_weaker c.wait.result
    (λ gone. record {
      put = IsPut-parted c.args.setting.now.program.now _ c.in_ok-done.ensures.extends c.in_ok-give_up.ensures.extends c.args.setting.now.heap.now c.requires.going.is_heap c.args.setting.now.limit c.args.group c.in_ok-done.done c.in_ok-done.going c.args.used c.args.round.now c.give_up.new.round c.wait.new.round c.requires.going.stands c.requires.used c.requires.going.underway c.requires.going.vacant c.in_ok-done.ensures.inside c.in_ok-done.ensures.outside c.in_ok-give_up.ensures.ended gone.put;
      texts = gone.texts ∙ c.in_ok-give_up.ensures.ended.texts;
    })
    c.wait.ensures.gone
