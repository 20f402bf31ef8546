use Rattle.vx_cond.proofs.RowLaws.{part_is_cond, other_is_cond, apart_places, outer_there, IsJoiningRow-end, IsJoiningRow-step}
use Rattle.vx_cond.proofs.row.join_conds.Goals as goal

pub joined-requires-clause-first : goal.joined-requires-clause-first
joined-requires-clause-first g c = part_is_cond _ c.args.first c.args.conds.now _ _ c.requires.conds c.loop-i-test.true c.index-conds-i.is c.loop-i.invariant.extends

pub joined-requires-clause-second : goal.joined-requires-clause-second
joined-requires-clause-second g c = other_is_cond _ c.args.second c.args.conds.now c.args.others.now _ _ c.requires.others c.requires.lengths c.loop-i-test.true c.index-others-i.is c.loop-i.invariant.extends

pub joined-requires-clause-disjoint : goal.joined-requires-clause-disjoint
joined-requires-clause-disjoint g c = apart_places _ c.args.first c.args.second c.args.conds.now c.args.others.now _ _ _ c.requires.conds c.requires.others c.requires.lengths c.requires.disjoint c.loop-i-test.true c.index-conds-i.is c.index-others-i.is c.loop-i.invariant.extends

pub joined-requires-clause-scope : goal.joined-requires-clause-scope
joined-requires-clause-scope g c = outer_there _ c.args.first c.args.second c.args.conds.now c.args.others.now _ _ _ _ c.requires.conds c.requires.others c.requires.lengths c.requires.outer c.loop-i-test.true c.index-conds-i.is c.index-others-i.is c.loop-i.invariant.extends

pub loop-i-preserved : goal.loop-i-preserved
loop-i-preserved g c = rw c.in_ok-push.ensures.items (IsJoiningRow-step _ c.args.first c.args.second c.args.conds.now c.args.others.now _ c.index-conds-i.result c.index-others-i.result _ c.in_ok-part.part _ c.requires.conds c.requires.others c.requires.lengths c.loop-i-test.true c.index-conds-i.is c.index-others-i.is c.loop-i.invariant c.in_ok-part.ensures.extends c.in_ok-part.ensures.scope c.in_ok-part.ensures.ok)

pub returns-clause-extends : goal.returns-clause-extends
returns-clause-extends g c = c.loop-i.invariant.extends

pub returns-clause-conds : goal.returns-clause-conds
returns-clause-conds g c = c.loop-i.invariant.conds

pub returns-clause-values : goal.returns-clause-values
returns-clause-values g c = IsJoiningRow-end _ c.args.conds.now c.args.others.now _ _ _ c.loop-i.invariant c.requires.lengths c.loop-i-test.false
