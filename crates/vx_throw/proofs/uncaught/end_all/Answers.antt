use Rattle.std.proofs.Common.{◌∙◌}
use Rattle.std.specs.Ordering.{nat_cmp}
use Rattle.vx_cond.proofs.LiftingLaws.{IsCond-lifting}
use Rattle.vx_group_states.proofs.Gathering.{AreLeaves-of, Cover-answers}
use Rattle.vx_throw.proofs.EndLaws.{ended-gives}
use Rattle.vx_throw.proofs.Leaves.{each_answer}
use Rattle.vx_throw.specs.Landings.{is_class_number}
use Rattle.vx_throw.proofs.uncaught.end_all.Goals as goal

pub map-requires-clause-valid : goal.map-requires-clause-valid
map-requires-clause-valid g c = c.requires.thrown.is_cond

pub ends-requires-clause-leaves : goal.ends-requires-clause-leaves
ends-requires-clause-leaves g c = rw c.leaves.ensures (AreLeaves-of nat_cmp _ c.in_ok-classes.classes (IsCond-lifting nat_cmp _ _ _ c.in_ok-classes.classes c.in_ok-classes.ensures.ok))

pub ends-requires-clause-cover : goal.ends-requires-clause-cover
ends-requires-clause-cover g c = rw c.leaves.ensures (Cover-answers nat_cmp _ _ c.in_ok-classes.classes (IsCond-lifting nat_cmp _ _ _ c.in_ok-classes.classes c.in_ok-classes.ensures.ok) (c.in_ok-classes.ensures.scope ∙ c.requires.thrown.scope))

pub ends-requires-clause-short : goal.ends-requires-clause-short
ends-requires-clause-short g c = rw c.leaves.ensures (each_answer nat_cmp (g.met.S.Space.lawful c.map.new.space) _ is_class_number _ c.in_ok-classes.classes (λ slot n h. h.1) c.in_ok-classes.ensures.ok)

pub returns-clause-gives : goal.returns-clause-gives
returns-clause-gives g c = ended-gives c.args.program.now c.in_ok-classes.ensures.extends c.args.heap.now c.args.flight.now.group c.args.flight.now.objects _ c.in_ok-classes.classes _ (λ slot n h. h.0) c.requires.thrown c.in_ok-classes.ensures.ok (rw c.leaves.ensures at (c.in_ok-outcomes.ensures.gives c.args.heap.now))
