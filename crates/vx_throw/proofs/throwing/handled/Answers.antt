use Rattle.vx_group.proofs.GroupLaws.{IsGroupIn-group}
use Rattle.vx_throw.proofs.throwing.handled.Goals as goal

pub handle-requires-clause-bounded : goal.handle-requires-clause-bounded
handle-requires-clause-bounded g c = c.requires.1.bounded

pub handle-requires-clause-group : goal.handle-requires-clause-group
handle-requires-clause-group g c = IsGroupIn-group _ _ c.args.flight.group c.requires.1.stands.is_group

pub handle-requires-clause-thrown : goal.handle-requires-clause-thrown
handle-requires-clause-thrown g c = c.requires.1.thrown

pub returns-clause-extends : goal.returns-clause-extends
returns-clause-extends g c = c.in_ok-left.ensures.extends

pub returns-clause-handled : goal.returns-clause-handled
returns-clause-handled g c = (c.in_ok-left.landed.items.items, c.in_ok-append.ensures.ok, c.in_ok-left.ensures.handled)
