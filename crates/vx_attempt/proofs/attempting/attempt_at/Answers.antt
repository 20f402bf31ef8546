use Rattle.vx_space.proofs.Spaces.{Extends-trans}
use Rattle.vx_attempt.proofs.Making.{attempted, may_carry_out, may_throw, none_uncarried}
use Rattle.vx_attempt.proofs.attempting.attempt_at.Goals as goal

pub carried_out-requires : goal.carried_out-requires
carried_out-requires g c = may_carry_out c.args.site.now c.args.operation _ _ c.args.heap.now _ c.args.callers.now _ c.args.group _ c.requires.given c.in_ok-outcomes.ensures.ok

pub all_thrown-requires : goal.all_thrown-requires
all_thrown-requires g c = may_throw c.args.site.now c.args.operation _ _ _ c.args.heap.now _ _ c.args.callers.now _ _ c.args.group _ _ c.requires.given c.in_ok-outcomes.ensures.ok c.in_ok-carried.ensures.carried

pub returns-in_err-carried-clause-extends : goal.returns-in_err-carried-clause-extends
returns-in_err-carried-clause-extends g c = Extends-trans c.in_ok-outcomes.ensures.extends c.in_err-carried.ensures.extends

pub returns-in_err-made-clause-extends : goal.returns-in_err-made-clause-extends
returns-in_err-made-clause-extends g c = Extends-trans c.in_ok-outcomes.ensures.extends (Extends-trans c.in_ok-carried.ensures.extends c.in_err-made.ensures.extends)

pub returns-clause-extends : goal.returns-clause-extends
returns-clause-extends g c = Extends-trans c.in_ok-outcomes.ensures.extends (Extends-trans c.in_ok-carried.ensures.extends c.in_ok-made.ensures.extends)

pub returns-clause-ok : goal.returns-clause-ok
returns-clause-ok g c = attempted c.args.site.now c.args.operation _ _ _ _ c.args.heap.now _ _ _ c.args.callers.now _ _ _ c.args.group _ _ _ c.requires.given.at_site c.in_ok-outcomes.ensures.ok c.in_ok-carried.ensures.carried c.in_ok-made.ensures.carried (c.in_ok-made.ensures.placed (none_uncarried c.args.site.now c.args.operation _ _ _ c.args.heap.now _ _ c.args.callers.now _ _ c.args.group _ _ c.requires.given.at_site c.in_ok-outcomes.ensures.ok c.in_ok-carried.ensures.carried))
