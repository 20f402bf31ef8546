use Rattle.vx_cond.proofs.RowLaws.{part_is_cond, inner_there, IsRestrictingRow-step}
use Rattle.vx_cond.proofs.row.restrict_conds.Goals as goal

pub inside-requires-clause-valid : goal.inside-requires-clause-valid
inside-requires-clause-valid g c = part_is_cond _ c.args.scope c.args.conds.now _ _ c.requires.conds c.loop-cond-test.true c.cond-item.is c.loop-cond.invariant.extends

pub inside-requires-clause-known : goal.inside-requires-clause-known
inside-requires-clause-known g c = c.loop-cond.invariant.extends.known c.args.within c.requires.known

pub inside-requires-clause-scope : goal.inside-requires-clause-scope
inside-requires-clause-scope g c = inner_there _ c.args.scope c.args.conds.now _ _ _ _ c.requires.conds c.requires.known c.requires.inner c.loop-cond-test.true c.cond-item.is c.loop-cond.invariant.extends

pub loop-cond-preserved : goal.loop-cond-preserved
loop-cond-preserved g c = rw c.in_ok-push.ensures.items (IsRestrictingRow-step _ c.args.scope c.args.conds.now _ c.cond-item.result _ _ c.in_ok-part.part _ c.requires.conds c.requires.known c.loop-cond-test.true c.cond-item.is c.loop-cond.invariant c.in_ok-part.ensures.extends c.in_ok-part.ensures.scope c.in_ok-part.ensures.ok)
