use Rattle.std.proofs.Common.{◌≡◌, drop, find, map, slice_get}
use Rattle.vx_link.specs.Linked.{is_main_method}
use Rattle.vx_linker.proofs.entries.main_among.Given as goal

abbrev pub invariant-loop-number : goal.invariant-loop-number
invariant-loop-number l =
    find (λ m. is_main_method (slice_get l.methods m)) (map (λ m. m.0) l.numbers)
    ≡ find (λ m. is_main_method (slice_get l.methods m)) (map (λ m. m.0) (drop l.number-index l.numbers))
