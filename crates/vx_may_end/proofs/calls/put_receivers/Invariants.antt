use Rattle.std.proofs.Common.{filter, flat_map, ◌++◌, ◌≡◌}
use Rattle.std.specs.List.{range_with_len}
use Rattle.vx_link.specs.Assignability.{assignable}
use Rattle.vx_may_end.specs.Lacks.{of_receiver}
use Rattle.vx_may_end.proofs.calls.put_receivers.Given as goal

-- behind what is put for arrays, what is put for the classes so far
abbrev pub invariant-loop-place : goal.invariant-loop-place
invariant-loop-place l =
    l.out.items ≡ l.initial.out.items ++ flat_map (of_receiver l.program l.resolved.0) (filter (λ c. assignable l.program c l.named.0) (range_with_len 0 l.place))
