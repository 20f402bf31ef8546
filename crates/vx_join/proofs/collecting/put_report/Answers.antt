use Rattle.std.specs.Ordering.{nat_cmp}
use Rattle.vx_value.specs.Ends.{compare_ends}
use Rattle.vx_space.proofs.Spaces.{Extends-trans}
use Rattle.vx_cond.proofs.LeafLaws.{AreLeaves-extends, IsApart-extends}
use Rattle.vx_bdd_tools.proofs.ListedSets.{AreSetsOf-extends}
use Rattle.vx_findings.specs.Shared.{leaves_of}
use Rattle.vx_join.proofs.Reports.{IsOneMore-of, scope_apart}
use Rattle.vx_join.proofs.collecting.put_report.Goals as goal

pub put_firsts-requires-clause-leaves : goal.put_firsts-requires-clause-leaves
put_firsts-requires-clause-leaves g c = AreLeaves-extends compare_ends c.in_ok-sets.ensures.extends (leaves_of c.args.collected.now.ends.items) c.requires.before.ends

pub put_firsts-requires-clause-apart : goal.put_firsts-requires-clause-apart
put_firsts-requires-clause-apart g c = IsApart-extends compare_ends c.in_ok-sets.ensures.extends c.args.unsaid (leaves_of c.args.collected.now.ends.items) c.requires.before.unsaid_known c.requires.before.ends c.requires.before.ends_apart

pub put_firsts-requires-2-clause-sets : goal.put_firsts-requires-2-clause-sets
put_firsts-requires-2-clause-sets g c = rw c.as_slice-sets.ensures.value (AreSetsOf-extends (Extends-trans c.in_ok-rest.ensures.extends c.in_ok-scope.ensures.extends) _ _ (rw c.as_slice.ensures at c.in_ok-sets.ensures.ok))

pub put_firsts-requires-2-clause-leaves : goal.put_firsts-requires-2-clause-leaves
put_firsts-requires-2-clause-leaves g c =
    AreLeaves-extends nat_cmp (Extends-trans c.in_ok-sets.ensures.extends (Extends-trans c.in_ok-rest.ensures.extends c.in_ok-scope.ensures.extends)) (leaves_of c.args.collected.now.spent.items) c.requires.before.spent

pub put_firsts-requires-2-clause-apart : goal.put_firsts-requires-2-clause-apart
put_firsts-requires-2-clause-apart g c =
    scope_apart c.args.unsaid c.in_ok-rest.rest c.in_ok-scope.scope c.args.collected.now c.requires.before c.in_ok-sets.ensures.extends c.in_ok-rest.ensures.extends c.in_ok-scope.ensures.extends c.in_ok-scope.ensures.ok

pub put_pieces-requires-clause-sets : goal.put_pieces-requires-clause-sets
put_pieces-requires-clause-sets g c =
    rw c.as_slice-sets.ensures.value
    (AreSetsOf-extends (Extends-trans c.in_ok-rest.ensures.extends (Extends-trans c.in_ok-scope.ensures.extends c.in_ok-put_firsts.ensures.extends)) _ _ (rw c.as_slice.ensures at c.in_ok-sets.ensures.ok))

pub returns-clause-more : goal.returns-clause-more
returns-clause-more g c =
    IsOneMore-of c.args.report.now c.args.unsaid c.in_ok-rest.rest c.in_ok-scope.scope c.args.collected.now (record { found = c.put_pieces.new.found; ends = c.put_firsts.new.values; spent = c.put_firsts-2.new.values }) c.requires.lawful c.requires.before
    c.in_ok-sets.ensures.extends c.in_ok-rest.ensures.extends c.in_ok-scope.ensures.extends c.in_ok-put_firsts.ensures.extends c.in_ok-put_pieces.ensures.extends
    c.in_ok-rest.ensures.values c.in_ok-rest.ensures.rest c.in_ok-scope.ensures.ok c.in_ok-put_firsts.ensures.values c.in_ok-put_pieces.ensures.found
