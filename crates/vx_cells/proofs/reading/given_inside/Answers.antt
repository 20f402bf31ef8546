use Rattle.std.proofs.Common.{◌∙◌}
use Rattle.vx_cond.proofs.LiftingLaws.{IsCond-lifting}
use Rattle.vx_group_states.specs.Answers.{answer_cmp}
use Rattle.vx_cells.proofs.Giving.{given_at}
use Rattle.vx_cells.proofs.reading.given_inside.Goals as goal

pub returns-clause-cond : goal.returns-clause-cond
returns-clause-cond g c = IsCond-lifting answer_cmp _ _ _ c.in_ok-given.given c.in_ok-given.ensures.ok

pub returns-clause-scope : goal.returns-clause-scope
returns-clause-scope g c = c.in_ok-given.ensures.scope ∙ c.in_ok-value.ensures.ok.scope

pub returns-clause-at : goal.returns-clause-at
returns-clause-at g c = given_at _ c.in_ok-value.ensures.extends c.args.heap.now c.args.reference c.args.cell c.args.condition c.in_ok-value.value c.in_ok-given.given _ (λ a b h. h) c.requires.heap c.requires.known c.in_ok-value.ensures.ok c.in_ok-given.ensures.ok
