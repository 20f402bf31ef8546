use Rattle.std.proofs.Common.{◌∙◌, ap, ◌++◌, ◌∷◌, []}
use Rattle.vx_outcome.specs.declared.outcome.Outcome.TheVariants.{Go}
use Rattle.vx_outcome.proofs.OutcomeLaws.{Divide-go}
use Rattle.vx_outcome.proofs.outcome.Outcomes.go.Goals as goal

pub returns-clause-divide : goal.returns-clause-divide
returns-clause-divide g c = λ sets. Divide-go sets c.args.group _ (c.in_ok-push.ensures.ok ∙ ap (λ xs. xs ++ Go c.args.group ∷ []) c.new-outcomes.ensures)
