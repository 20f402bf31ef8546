use Rattle.std.proofs.Common.{◌∙◌, ap}
use Rattle.std.specs.Prelude.{is_some, nat_eq}
use Rattle.vx_java.proofs.Specifics.{some_first}
use Rattle.vx_java.proofs.Silence.{none_marked}
use Rattle.vx_java.specs.Specific.{number_if}
use Rattle.vx_link.specs.Hierarchy.{interfaces_below}
use Rattle.vx_java.proofs.hierarchy.is_declared_above.Goals as goal

pub returns : goal.returns
returns c =
    c.is_some.ensures ∙ ap is_some c.ask_below.ensures.answer ∙ some_first (nat_eq c.args.wanted) (interfaces_below c.args.program.now c.args.class.0)

pub ask_below-requires : goal.ask_below-requires
ask_below-requires c = none_marked (λ i. number_if (nat_eq c.args.wanted i) i) c.args.program.now c.no_marks-silent.result c.no_marks-silent.ensures
