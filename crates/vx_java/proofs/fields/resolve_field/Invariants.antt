use Rattle.std.proofs.Common.{◌≡◌}
use Rattle.vx_java.proofs.Walks.{chain_from, with_below}
use Rattle.vx_java.specs.Silent.{AreSilent}
use Rattle.vx_link.specs.Hierarchy.{interfaces_below}
use Rattle.vx_link.specs.Resolution.{first_given, field_order, own_field}
use Rattle.vx_java.proofs.fields.resolve_field.Given as goal

abbrev pub invariant-loop-left : goal.invariant-loop-left
invariant-loop-left l =
    (first_given (own_field l.program l.question.sought.now.0 l.question.sought.now.1) (field_order l.program l.fn.class.0)
    ≡ first_given (own_field l.program l.question.sought.now.0 l.question.sought.now.1) (with_below (interfaces_below l.program) (chain_from l.program l.left l.next)))
    × AreSilent (own_field l.program l.question.sought.now.0 l.question.sought.now.1) l.program l.silent

abbrev pub decreases-loop-left : goal.decreases-loop-left
decreases-loop-left l = l.left
