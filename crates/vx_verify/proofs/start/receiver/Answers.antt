use Rattle.vx_verify.proofs.StartLaws.{receiver_object, receiver_static}
use Rattle.vx_verify.proofs.start.receiver.Goals as goal

pub returns-then-is_static : goal.returns-then-is_static
returns-then-is_static c =
    rw c.new-numbers.ensures.items
    (receiver_static c.args.program.now c.args.method.0 c.args.store.now _ c.is_static.result c.requires.store c.is_static.ensures c.if-is_static.true)

pub returns : goal.returns
returns c =
    receiver_object c.args.program.now c.args.method.0 c.args.store.now _ _ c.is_static.result _ c.is_static.ensures c.if-is_static.false
    (rw (c.new-numbers.ensures.items, c.class_type-item.ensures, c.current_class.ensures) at c.in_ok-put_value.ensures)
