use Rattle.std.proofs.Common.{refl}
use Rattle.std.proofs.lemmas.Result.{on_ok_weaker}
use Rattle.std.specs.Ordering.{nat_cmp}
use Rattle.vx_space.proofs.Spaces.{Extends-trans}
use Rattle.vx_cond.proofs.LeafLaws.{AreLeaves-extends, IsApart-extends}
use Rattle.vx_findings.specs.Shared.{leaves_of}
use Rattle.vx_value.specs.Ends.{compare_ends}
use Rattle.vx_placing.proofs.Ending.{IsEnded-made, inside_apart, inside_leaves}
use Rattle.vx_placing.proofs.placing.finish.Goals as goal

pub add-requires-clause-leaves : goal.add-requires-clause-leaves
add-requires-clause-leaves g c = AreLeaves-extends compare_ends c.in_ok-inside.ensures.extends (leaves_of c.args.round.now.ends.items) c.requires.ends

pub add-requires-clause-apart : goal.add-requires-clause-apart
add-requires-clause-apart g c = IsApart-extends compare_ends c.in_ok-inside.ensures.extends c.args.condition (leaves_of c.args.round.now.ends.items) c.requires.known c.requires.ends c.requires.ends_apart

pub add_spent-requires-clause-spent : goal.add_spent-requires-clause-spent
add_spent-requires-clause-spent g c = AreLeaves-extends nat_cmp (Extends-trans c.in_ok-inside.ensures.extends c.in_ok-add.ensures.extends) (leaves_of c.args.round.now.spent.items) c.requires.spent

pub add_spent-requires-clause-leaves : goal.add_spent-requires-clause-leaves
add_spent-requires-clause-leaves g c = inside_leaves (g.S.Space.sets c.args.space.now) c.in_ok-add.ensures.extends c.args.attempts.now c.in_ok-inside.inside c.args.condition c.leaves.result.now c.in_ok-inside.ensures.ok c.leaves.ensures

pub add_spent-requires-clause-apart : goal.add_spent-requires-clause-apart
add_spent-requires-clause-apart g c = inside_apart c.in_ok-inside.ensures.extends c.in_ok-add.ensures.extends c.args.round.now.spent.items c.args.attempts.now c.in_ok-inside.inside c.args.condition c.leaves.result.now c.requires.spent c.requires.spent_apart c.in_ok-inside.ensures.ok c.leaves.ensures

pub returns-clause-ended : goal.returns-clause-ended
returns-clause-ended g c =
    on_ok_weaker c.add_spent.result
    (λ spent. IsEnded-made c.in_ok-inside.ensures.extends c.in_ok-add.ensures.extends c.add_spent.ensures.extends c.args.attempts.now c.in_ok-inside.inside c.args.condition c.args.end c.leaves.result.now c.args.round.now _ c.requires.ends c.requires.spent c.requires.known c.in_ok-inside.ensures.ok c.leaves.ensures c.in_ok-add.ensures.added spent refl refl refl)
    c.add_spent.ensures.added

pub returns-clause-extends : goal.returns-clause-extends
returns-clause-extends g c = Extends-trans (Extends-trans c.in_ok-inside.ensures.extends c.in_ok-add.ensures.extends) c.add_spent.ensures.extends
