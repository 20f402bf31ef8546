use Rattle.std.proofs.Common.{◌≡◌, ◌++◌, length, true}
use Rattle.std.specs.List.{list_all}
use Rattle.std.specs.Vec.Iter.{into_iter_items, into_iter_len}
use Rattle.vx_reporting.specs.Fitting.{is_fitting}
use Rattle.vx_reporting.specs.Listed.{end_line, lines_with}
use Rattle.vx_reporting.proofs.lines.ends_of.Given as goal

abbrev pub invariant-loop-shared : goal.invariant-loop-shared
invariant-loop-shared g l =
    (into_iter_len l.shared-iterator ≡ length (into_iter_items l.shared-iterator))
    × (l.lines.items ++ lines_with end_line (into_iter_items l.shared-iterator) l.rest ≡ lines_with end_line l.fn.ends.items l.fn.numbers)
    × (list_all (λ line. is_fitting line.end) l.lines.items ≡ true)
