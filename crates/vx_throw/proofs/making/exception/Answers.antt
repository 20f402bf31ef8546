use Rattle.std.proofs.lemmas.Result.{IfOk-weaker}
use Rattle.vx_cond.proofs.CondLaws.{IsCond-of}
use Rattle.vx_group_states.specs.Stands.{message_of}
use Rattle.vx_throw.proofs.MadeExceptions.{IsExceptionMade-of, null_held}
use Rattle.vx_value.specs.Slot.{slot_cmp}
use Rattle.vx_throw.proofs.making.exception.Goals as goal

pub throwable-requires-clause-heap : goal.throwable-requires-clause-heap
throwable-requires-clause-heap g c = (c.in_ok-string.ensures (g.S.Space.sets c.args.space.now) c.requires.heap c.requires.known).changed.is_heap

pub throwable-requires-clause-message : goal.throwable-requires-clause-message
throwable-requires-clause-message g c = (c.in_ok-string.ensures (g.S.Space.sets c.args.space.now) c.requires.heap c.requires.known).held

pub throwable-requires-clause-cause : goal.throwable-requires-clause-cause
throwable-requires-clause-cause g c = IsCond-of slot_cmp _ _ c.in_ok-cause.cause c.in_ok-cause.ensures.ok

pub throwable-requires-clause-scope : goal.throwable-requires-clause-scope
throwable-requires-clause-scope g c = c.in_ok-cause.ensures.scope

pub throwable-requires-clause-held : goal.throwable-requires-clause-held
throwable-requires-clause-held g c = null_held _ _ c.args.path c.in_ok-cause.cause c.in_ok-cause.ensures.scope c.in_ok-cause.ensures.ok

pub returns-clause-ok : goal.returns-clause-ok
returns-clause-ok g c =
    let message = c.in_ok-string.ensures (g.S.Space.sets c.args.space.now) c.requires.heap c.requires.known in
    IfOk-weaker c.throwable.result _ _ (λ r h. IsExceptionMade-of c.args.program.now c.args.heap.now c.message_object.new.heap c.throwable.new.heap c.args.path c.args.class.0 (message_of c.args.heap.now c.args.message) c.in_ok-string.string c.in_ok-cause.cause r message c.in_ok-cause.ensures.ok h) c.throwable.ensures.made
