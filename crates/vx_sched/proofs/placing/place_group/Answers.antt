use Rattle.std.proofs.Common.{refl, sym, ◌∙◌}
use Rattle.vx_sched.proofs.GroupsLaws.{path_known, placed_never, placed_pushed}
use Rattle.vx_sched.proofs.placing.place_group.Goals as goal

pub is_never-requires : goal.is_never-requires
is_never-requires g c = rw c.path.ensures (path_known _ c.args.callers.now c.args.group c.requires.group)

pub returns-then-is_never-clause-placed : goal.returns-then-is_never-clause-placed
returns-then-is_never-clause-placed g c = placed_never _ _ _ _ (g.met.S.Space.lawful c.args.space.now) (sym c.path.ensures ∙ c.is_never.ensures.0 c.if-is_never.true) c.requires.groups

pub returns-in_ok-push-in-None-clause-placed : goal.returns-in_ok-push-in-None-clause-placed
returns-in_ok-push-in-None-clause-placed g c = rw c.in_ok-push-in-None.ensures.ok (placed_pushed _ _ _ _ c.requires.groups c.requires.group c.requires.apart (λ e. cc (c.is_never.ensures.1 (c.path.ensures ∙ e), c.if-is_never.false)) ((rw c.as_slice.ensures at c.place_of.ensures.fresh) (rw c.in-None.is refl)))
