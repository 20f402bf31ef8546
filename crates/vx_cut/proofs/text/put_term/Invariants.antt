use Rattle.std.proofs.Common.{◌≡◌, ◌++◌, take}
use Rattle.vx_model.specs.Models.{names_of}
use Rattle.vx_explain.specs.Text.{more_literals}
use Rattle.vx_cut.proofs.text.put_term.Given as goal

abbrev pub invariant-loop-literal : goal.invariant-loop-literal
invariant-loop-literal l = l.out.items ≡ l.initial.out.items ++ more_literals (names_of l.model) (take l.literal-index l.rest)
