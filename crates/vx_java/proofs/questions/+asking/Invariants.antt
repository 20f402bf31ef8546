use Rattle.std.proofs.Common.{◌≡◌, ◌-◌, ◌*◌, ◌+◌, ◌∷◌, flat_map}
use Rattle.vx_java.proofs.Walks.{numbers_from}
use Rattle.vx_java.specs.Silent.{AreSilent}
use Rattle.vx_link.specs.Hierarchy.{interfaces_within}
use Rattle.vx_link.specs.Resolution.{first_given}
use Rattle.vx_java.proofs.questions.+asking.Given as goal

abbrev pub decreases-ask_from : goal.decreases-ask_from
decreases-ask_from g l = 2 * l.depth + 1

abbrev pub decreases-ask_within : goal.decreases-ask_within
decreases-ask_within g l = 2 * l.depth

abbrev pub invariant-ask_within-loop-interface : goal.invariant-ask_within-loop-interface
invariant-ask_within-loop-interface g l =
    (first_given (g.Q.Question.answer l.question l.program) (interfaces_within l.program l.depth l.fn.class.0)
    ≡ first_given (g.Q.Question.answer l.question l.program) (flat_map (λ i. i ∷ interfaces_within l.program (l.depth - 1) i) (numbers_from l.interface-index l.interface-items)))
    × AreSilent (g.Q.Question.answer l.question l.program) l.program l.silent
