use Rattle.std.proofs.Common.{◌≡◌, flat_map}
use Rattle.vx_java.proofs.Walks.{chain_from}
use Rattle.vx_java.specs.Silent.{AreSilent}
use Rattle.vx_link.specs.Hierarchy.{interfaces_below, superinterfaces}
use Rattle.vx_link.specs.Resolution.{first_given}
use Rattle.vx_java.proofs.questions.ask_superinterfaces.Given as goal

abbrev pub invariant-loop-left : goal.invariant-loop-left
invariant-loop-left g l =
    (first_given (g.Q.Question.answer l.question l.program) (superinterfaces l.program l.fn.class.0)
    ≡ first_given (g.Q.Question.answer l.question l.program) (flat_map (interfaces_below l.program) (chain_from l.program l.left l.next)))
    × AreSilent (g.Q.Question.answer l.question l.program) l.program l.silent

abbrev pub decreases-loop-left : goal.decreases-loop-left
decreases-loop-left g l = l.left
