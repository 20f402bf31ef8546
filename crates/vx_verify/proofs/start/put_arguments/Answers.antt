use Rattle.std.proofs.Common.{arith, refl}
use Rattle.vx_types.specs.Types.{type_of}
use Rattle.vx_verify.proofs.StartLaws.{arguments_end, arguments_more, arguments_start}
use Rattle.vx_verify.specs.States.{types_at}
use Rattle.vx_verify.specs.Typing.{locals_of}
use Rattle.vx_verify.proofs.start.put_arguments.Goals as goal

pub loop-item-init : goal.loop-item-init
loop-item-init c = arguments_start c.args.store.now (λ t. locals_of t (type_of c.args.program.now c.args.descriptor.now t)) c.args.items.now c.args.numbers.now.items c.requires.store c.requires.numbers

pub put_argument-requires-clause-store : goal.put_argument-requires-clause-store
put_argument-requires-clause-store c = c.loop-item.invariant.later.store

pub put_argument-requires-clause-numbers : goal.put_argument-requires-clause-numbers
put_argument-requires-clause-numbers c = c.loop-item.invariant.are_types

pub loop-item-preserved : goal.loop-item-preserved
loop-item-preserved c =
    arguments_more c.args.store.now c.loop-item.store c.put_argument.new.store (λ t. locals_of t (type_of c.args.program.now c.args.descriptor.now t)) (types_at c.args.store.now c.args.numbers.now.items)
    c.args.items.now c.loop-item.item-index _ _ c.loop-item.numbers.items c.put_argument.new.numbers.items c.loop-item.invariant c.loop-item-test.true c.in_ok-put_argument.ensures refl

pub returns : goal.returns
returns c =
    arguments_end c.args.store.now c.loop-item.store (λ t. locals_of t (type_of c.args.program.now c.args.descriptor.now t)) (types_at c.args.store.now c.args.numbers.now.items) c.args.items.now
    c.loop-item.item-index c.loop-item.numbers.items c.loop-item.invariant (omega arith)
