use Rattle.std.proofs.Common.{◌∙◌}
use Rattle.vx_cond.proofs.CondLaws.{IsCond-of}
use Rattle.vx_group_states.specs.Answers.{answer_cmp}
use Rattle.vx_value.specs.Slot.{slot_cmp}
use Rattle.vx_group_states.proofs.AnswerLaws.{values_at, values_scope}
use Rattle.vx_group_states.proofs.SettleLaws.{lifting_cond}
use Rattle.vx_group_states.proofs.answering.slots_inside.Goals as goal

pub map-requires-clause-valid : goal.map-requires-clause-valid
map-requires-clause-valid g c = IsCond-of answer_cmp _ _ c.in_ok-inside.inside c.in_ok-inside.ensures.ok

pub returns-clause-cond : goal.returns-clause-cond
returns-clause-cond g c = lifting_cond slot_cmp _ _ _ c.in_ok-values.values c.in_ok-values.ensures.ok

pub returns-clause-scope : goal.returns-clause-scope
returns-clause-scope g c = c.in_ok-values.ensures.scope ∙ values_scope answer_cmp (g.met.S.Space.lawful c.restrict.new.space) c.args.answers.now c.in_ok-inside.inside c.args.path c.in_ok-inside.ensures.extends c.requires.known c.requires.answers c.requires.inside c.in_ok-inside.ensures.ok

pub returns-clause-at : goal.returns-clause-at
returns-clause-at g c = λ d t. values_at _ _ _ _ c.args.answers.now c.in_ok-inside.inside c.in_ok-values.values c.args.path (λ a s h. h) c.requires.answers c.requires.inside c.in_ok-inside.ensures.ok c.in_ok-values.ensures.ok d t
