use Rattle.std.proofs.Common.{take}
use Rattle.vx_bdd_tools.proofs.ListedSets.{AreSetsOf-extends}
use Rattle.vx_cond.proofs.LeafLaws.{AreLeaves-extends}
use Rattle.vx_findings.specs.Shared.{leaves_of}
use Rattle.vx_space.proofs.Spaces.{Extends-trans}
use Rattle.vx_join.proofs.Firsts.{IsPutting-apart, IsPutting-start, IsPutting-step, take_more, take_whole}
use Rattle.vx_join.proofs.collecting.put_firsts.Goals as goal

pub loop-entry-init : goal.loop-entry-init
loop-entry-init g c = IsPutting-start g.E.Value.Ranked.order g.E.Entry.node_of g.E.Entry.value_of (g.S.Space.sets c.args.space.now) c.args.report.now.nodes c.args.unsaid c.args.values.now.items c.requires.unsaid c.requires.leaves c.requires.apart

pub and-requires-clause-first : goal.and-requires-clause-first
and-requires-clause-first g c = c.loop-entry.invariant.rest_is.known

pub and-requires-clause-second : goal.and-requires-clause-second
and-requires-clause-second g c = (c.set_of-set.ensures c.args.report.now.nodes (AreSetsOf-extends c.loop-entry.invariant.extends c.args.report.now.nodes c.args.sets.now c.requires.sets)).known

pub add-requires-clause-leaves : goal.add-requires-clause-leaves
add-requires-clause-leaves g c = AreLeaves-extends g.E.Value.Ranked.order c.in_ok-part.ensures.extends (leaves_of c.loop-entry.values.items) c.loop-entry.invariant.values_are.are_leaves

pub add-requires-clause-known : goal.add-requires-clause-known
add-requires-clause-known g c = c.in_ok-part.ensures.ok.known

pub add-requires-clause-apart : goal.add-requires-clause-apart
add-requires-clause-apart g c =
    let nodes = c.args.report.now.nodes in
    let set_is = rw c.node.ensures at (c.set_of-set.ensures nodes (AreSetsOf-extends c.loop-entry.invariant.extends nodes c.args.sets.now c.requires.sets)) in
    IsPutting-apart g.E.Value.Ranked.order g.E.Entry.node_of g.E.Entry.value_of nodes c.args.unsaid c.args.values.now.items c.loop-entry.values.items (take c.loop-entry.entry-index (g.E.Entry.all_of c.args.report.now)) c.entry-item.result c.loop-entry.rest c.set_of-set.result c.in_ok-part.part c.loop-entry.invariant c.in_ok-part.ensures.extends set_is c.in_ok-part.ensures.ok

pub minus-requires-clause-first : goal.minus-requires-clause-first
minus-requires-clause-first g c = c.add.ensures.extends.known _ (c.in_ok-part.ensures.extends.known _ c.loop-entry.invariant.rest_is.known)

pub minus-requires-clause-second : goal.minus-requires-clause-second
minus-requires-clause-second g c = c.add.ensures.extends.known _ (c.in_ok-part.ensures.extends.known _ (c.set_of-set.ensures c.args.report.now.nodes (AreSetsOf-extends c.loop-entry.invariant.extends c.args.report.now.nodes c.args.sets.now c.requires.sets)).known)

pub loop-entry-preserved : goal.loop-entry-preserved
loop-entry-preserved g c =
    let nodes = c.args.report.now.nodes in
    let entries = g.E.Entry.all_of c.args.report.now in
    let i = c.loop-entry.entry-index in
    let set_is = rw c.node.ensures at (c.set_of-set.ensures nodes (AreSetsOf-extends c.loop-entry.invariant.extends nodes c.args.sets.now c.requires.sets)) in
    IsPutting-step g.E.Value.Ranked.order g.E.Entry.node_of g.E.Entry.value_of nodes c.args.unsaid c.args.values.now.items c.loop-entry.values.items c.add.new.list.items (take i entries) _ c.entry-item.result c.in_ok-value.value c.loop-entry.rest c.set_of-set.result c.in_ok-part.part c.in_ok-rest.rest
    (take_more c.all-entry-items.result.now entries i c.entry-item.result c.all-entry-items.ensures c.loop-entry-test.true c.entry-item.is) c.in_ok-value.ensures c.loop-entry.invariant
    c.in_ok-part.ensures.extends set_is c.in_ok-part.ensures.ok c.add.ensures.extends c.in_ok-add.ensures.added c.in_ok-rest.ensures.extends c.in_ok-rest.ensures.ok

pub returns-clause-extends : goal.returns-clause-extends
returns-clause-extends g c = c.loop-entry.invariant.extends

pub returns-clause-values : goal.returns-clause-values
returns-clause-values g c = rw (take_whole c.all-entry-items.result.now (g.E.Entry.all_of c.args.report.now) c.loop-entry.entry-index c.all-entry-items.ensures c.loop-entry-test.false) at c.loop-entry.invariant.values_are

pub returns-clause-rest : goal.returns-clause-rest
returns-clause-rest g c = rw (take_whole c.all-entry-items.result.now (g.E.Entry.all_of c.args.report.now) c.loop-entry.entry-index c.all-entry-items.ensures c.loop-entry-test.false) at c.loop-entry.invariant.rest_is
