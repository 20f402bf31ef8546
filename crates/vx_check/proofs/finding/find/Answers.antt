use Rattle.vx_check.proofs.Found.{LeadsIn-all, LeadsIn-start, LeadsIn-step, next_known}
use Rattle.std.proofs.lemmas.List.{drop_all}
use Rattle.vx_check.proofs.finding.find.Goals as goal

pub loop-ended-init : goal.loop-ended-init
loop-ended-init g c = (c.requires.sound, LeadsIn-start c.args.scope c.args.ends.now _ c.args.set c.args.finding.now c.requires.ends)

pub find_ended-requires-clause-end : goal.find_ended-requires-clause-end
find_ended-requires-clause-end g c = next_known (g.S.Space.sets c.loop-ended.space) c.args.ends.now c.loop-ended.ended-index c.ended-item.result c.loop-ended-test.true c.ended-item.is c.loop-ended.invariant.1.left_known

pub find_ended-requires-clause-set : goal.find_ended-requires-clause-set
find_ended-requires-clause-set g c = c.loop-ended.invariant.1.extends.known c.args.set c.requires.set

pub find_ended-requires-clause-scope : goal.find_ended-requires-clause-scope
find_ended-requires-clause-scope g c = c.loop-ended.invariant.1.extends.known c.args.scope c.requires.scope

pub find_ended-requires-clause-sound : goal.find_ended-requires-clause-sound
find_ended-requires-clause-sound g c = c.loop-ended.invariant.0

pub loop-ended-preserved : goal.loop-ended-preserved
loop-ended-preserved g c =
    (c.in_ok-find_ended.ensures.sound, LeadsIn-step c.args.scope c.args.ends.now c.loop-ended.ended-index c.ended-item.result _ c.args.set c.args.finding.now c.loop-ended.finding c.find_ended.new.finding c.loop-ended-test.true c.ended-item.is c.loop-ended.invariant.1 c.in_ok-find_ended.ensures.extends c.in_ok-find_ended.ensures.found)

pub returns-clause-extends : goal.returns-clause-extends
returns-clause-extends g c = c.loop-ended.invariant.1.extends

pub returns-clause-sound : goal.returns-clause-sound
returns-clause-sound g c = c.loop-ended.invariant.0

pub returns-clause-found : goal.returns-clause-found
returns-clause-found g c = LeadsIn-all c.args.scope c.args.ends.now _ _ c.args.set c.args.finding.now c.loop-ended.finding (drop_all c.loop-ended.ended-index c.args.ends.now c.loop-ended-test.false) c.loop-ended.invariant.1
