use Rattle.std.proofs.Common.{◌∙◌, sym}
use Rattle.std.specs.BTreeMap.{get}
use Rattle.std.specs.Ordering.{nat_cmp}
use Rattle.vx_bdd_tools.proofs.ListedSets.{AreSetsOf-extends}
use Rattle.vx_explain.proofs.Explaining.{IsExplaining-all, IsExplaining-start, IsExplaining-step}
use Rattle.vx_explain.proofs.explained.all_explained.Goals as goal

pub loop-subject-init : goal.loop-subject-init
loop-subject-init g c = IsExplaining-start (g.S.Space.sets c.args.space.now) c.args.report.now c.args.scope c.nothing_known-known.result.told.items c.nothing_known-known.result.places c.new-explained.result.items c.requires.scope c.nothing_known-known.ensures c.new-explained.ensures.items

pub place_of-requires-clause-sets : goal.place_of-requires-clause-sets
place_of-requires-clause-sets g c = AreSetsOf-extends c.loop-subject.invariant.extends c.args.report.now.nodes c.args.sets.now c.requires.sets

pub place_of-requires-clause-options : goal.place_of-requires-clause-options
place_of-requires-clause-options g c = c.requires.options ∙ sym c.loop-subject.invariant.extends.options

pub place_of-requires-clause-scope : goal.place_of-requires-clause-scope
place_of-requires-clause-scope g c = c.loop-subject.invariant.scope_is

pub place_of-requires-clause-known : goal.place_of-requires-clause-known
place_of-requires-clause-known g c = c.loop-subject.invariant.keeps

pub loop-subject-preserved : goal.loop-subject-preserved
loop-subject-preserved g c = rw c.in_ok-push.ensures.items (IsExplaining-step c.args.report.now c.args.subjects.now c.loop-subject.subject-index c.subject-item.result c.args.scope c.loop-subject.known.told.items c.place_of.new.known.told.items (get nat_cmp c.loop-subject.known.places) _ c.loop-subject.explained.items _ c.in_ok-place.place c.loop-subject-test.true c.subject-item.is c.loop-subject.invariant c.in_ok-place.ensures.extends c.in_ok-place.ensures.place c.in_ok-explained_at.ensures.subject c.in_ok-explained_at.ensures.place)

pub returns-clause-extends : goal.returns-clause-extends
returns-clause-extends g c = c.loop-subject.invariant.extends

pub returns-clause-explained : goal.returns-clause-explained
returns-clause-explained g c = IsExplaining-all c.args.report.now c.args.subjects.now c.loop-subject.subject-index c.args.scope _ _ c.loop-subject-test.false c.loop-subject.invariant
