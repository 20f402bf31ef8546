use Rattle.std.proofs.Common.{◌≡◌, ◌∙◌, List, None, Option, Some, ℕ}
use Rattle.std.proofs.lemmas.Option.{same_Some}
use Rattle.vx_count.specs.Output.{output_of}
use Rattle.vx_compare.proofs.FirstLines.{output_there}
use Rattle.vx_compare.proofs.lines.printed.Goals as goal

pub returns-in-Some : goal.returns-in-Some
returns-in-Some c = same_Some _ _ ((rw c.in-Some.is at c.in_ok-text.ensures) ∙ output_there c.args.report.now c.args.stream c.args.c.now c.requires)

pub returns-in-None : goal.returns-in-None
returns-in-None c =
    let nothing : Option (List ℕ) = None in
    let wrong : nothing ≡ Some (output_of c.args.report.now c.args.stream c.args.c.now) = (rw c.in-None.is at c.in_ok-text.ensures) ∙ output_there c.args.report.now c.args.stream c.args.c.now c.requires in
    absurd cc
