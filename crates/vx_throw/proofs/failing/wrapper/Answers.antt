use Rattle.std.proofs.Common.{refl}
use Rattle.std.proofs.lemmas.Result.{IfOk-weaker}
use Rattle.vx_cells.proofs.Somewhere.{somewhere_later}
use Rattle.vx_cond.proofs.CondLaws.{IsCond-of}
use Rattle.vx_heap.proofs.HeapLaws.{IsHeap-extends}
use Rattle.vx_space.proofs.Spaces.{Extends-trans}
use Rattle.vx_value.specs.Slot.{slot_cmp}
use Rattle.vx_throw.proofs.WrapLaws.{cause_held, cause_scope, wrapper_made}
use Rattle.vx_throw.proofs.failing.wrapper.Goals as goal

pub restrict-requires-clause-valid : goal.restrict-requires-clause-valid
restrict-requires-clause-valid g c = c.requires.may.is_cond

pub core_class-class-requires : goal.core_class-class-requires
core_class-class-requires g c = c.requires.may.classes

pub throwable-requires-clause-heap : goal.throwable-requires-clause-heap
throwable-requires-clause-heap g c = IsHeap-extends c.in_ok-cause.ensures.extends c.args.heap.now c.requires.may.is_heap

pub throwable-requires-clause-known : goal.throwable-requires-clause-known
throwable-requires-clause-known g c = c.in_ok-cause.ensures.extends.known c.args.path c.requires.known

pub throwable-requires-clause-somewhere : goal.throwable-requires-clause-somewhere
throwable-requires-clause-somewhere g c = somewhere_later c.in_ok-cause.ensures.extends c.args.path c.requires.known c.requires.somewhere

pub throwable-requires-clause-message : goal.throwable-requires-clause-message
throwable-requires-clause-message g c = λ d t. refl

pub throwable-requires-clause-cause : goal.throwable-requires-clause-cause
throwable-requires-clause-cause g c = IsCond-of slot_cmp _ _ c.in_ok-cause.cause c.in_ok-cause.ensures.ok

pub throwable-requires-clause-scope : goal.throwable-requires-clause-scope
throwable-requires-clause-scope g c = cause_scope c.args.program.now c.args.heap.now c.args.objects.now c.in_ok-cause.cause c.args.path c.requires.may c.requires.known c.requires.inside c.in_ok-cause.ensures.extends c.in_ok-cause.ensures.ok (g.met.S.Space.lawful c.restrict.new.space)

pub throwable-requires-clause-held : goal.throwable-requires-clause-held
throwable-requires-clause-held g c =
    let scope = cause_scope c.args.program.now c.args.heap.now c.args.objects.now c.in_ok-cause.cause c.args.path c.requires.may c.requires.known c.requires.inside c.in_ok-cause.ensures.extends c.in_ok-cause.ensures.ok (g.met.S.Space.lawful c.restrict.new.space) in
    cause_held c.args.program.now c.args.heap.now c.args.objects.now c.in_ok-cause.cause c.args.path c.requires.may c.requires.known c.requires.inside c.in_ok-cause.ensures.extends c.in_ok-cause.ensures.ok scope

pub returns-clause-extends : goal.returns-clause-extends
returns-clause-extends g c = Extends-trans c.in_ok-cause.ensures.extends c.throwable.ensures.extends

pub returns-clause-made : goal.returns-clause-made
returns-clause-made g c = IfOk-weaker c.throwable.result _ _ (λ r h. wrapper_made c.args.program.now c.args.heap.now c.args.objects.now c.in_ok-cause.cause c.args.path c.requires.may c.requires.known c.requires.inside c.in_ok-cause.ensures.extends c.in_ok-cause.ensures.ok c.core_class-class.result.0 c.throwable.new.heap r c.core_class-class.ensures h) c.throwable.ensures.made
