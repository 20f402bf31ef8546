use Rattle.std.proofs.Common.{take, ◌++◌}
use Rattle.std.specs.Prelude.{flat_map}
use Rattle.vx_types.specs.Types.{type_of}
use Rattle.vx_verify.specs.States.{HasNumbers, types_at}
use Rattle.vx_verify.specs.Typing.{locals_of}
use Rattle.vx_verify.proofs.start.put_arguments.Given as goal

abbrev pub invariant-loop-item : goal.invariant-loop-item
invariant-loop-item l =
    HasNumbers l.fn.store l.store l.numbers.items (types_at l.fn.store l.fn.numbers.items ++ flat_map (λ t. locals_of t (type_of l.program l.descriptor t)) (take l.item-index l.items))
