use Rattle.std.proofs.Common.{sym, ◌∙◌, subst, ap}
use Rattle.vx_space.proofs.Spaces.{Extends-trans, IsSet-extends}
use Rattle.vx_bdd_tools.proofs.ListedSets.{AreSetsOf-extends}
use Rattle.vx_cover.specs.Covers.{has_end}
use Rattle.vx_check.specs.Expected.{AreOf}
use Rattle.vx_check.specs.Ways.{endings}
use Rattle.vx_check.proofs.Found.{AreKnownEnds-of, checks}
use Rattle.vx_check.proofs.checking.check_report.Goals as goal

pub sets_of-requires : goal.sets_of-requires
sets_of-requires g c = rw (c.as_slice.ensures, sym c.requires.options) c.requires.lawful.numbered.reduced

pub ended-requires : goal.ended-requires
ended-requires g c = rw c.as_slice-2.ensures.value (rw c.as_slice.ensures at c.in_ok-sets.ensures.ok)

pub first_ends-requires : goal.first_ends-requires
first_ends-requires g c = rw c.as_slice-3.ensures.value (AreSetsOf-extends c.in_ok-scope.ensures.extends c.args.report.now.nodes c.in_ok-sets.sets.items (rw c.as_slice.ensures at c.in_ok-sets.ensures.ok))

pub ended_of-requires : goal.ended_of-requires
ended_of-requires g c = rw c.as_slice-4.ensures.value c.in_ok-firsts.ensures.ends.number

pub find_all-requires-clause-ends : goal.find_all-requires-clause-ends
find_all-requires-clause-ends g c = rw c.as_slice-5.ensures.value (AreKnownEnds-of _ (endings c.args.report.now) c.in_ok-ends.ends.items (rw c.as_slice-4.ensures.value at c.in_ok-ends.ensures _ c.in_ok-firsts.ensures.ends))

pub find_all-requires-clause-scope : goal.find_all-requires-clause-scope
find_all-requires-clause-scope g c = c.in_ok-firsts.ensures.extends.known c.in_ok-scope.scope c.in_ok-scope.ensures.ended.known

pub find_all-requires-clause-expected : goal.find_all-requires-clause-expected
find_all-requires-clause-expected g c = subst (λ n. AreOf n c.args.expected.now) (c.requires.options ∙ sym c.in_ok-sets.ensures.extends.options ∙ sym c.in_ok-scope.ensures.extends.options ∙ sym c.in_ok-firsts.ensures.extends.options) c.requires.expected

pub checked-requires-clause-scope : goal.checked-requires-clause-scope
checked-requires-clause-scope g c = (Extends-trans c.in_ok-firsts.ensures.extends c.in_ok-finding.ensures.extends).known c.in_ok-scope.scope c.in_ok-scope.ensures.ended.known

pub checked-requires-clause-sound : goal.checked-requires-clause-sound
checked-requires-clause-sound g c = c.in_ok-finding.ensures.sound

pub returns-clause-extends : goal.returns-clause-extends
returns-clause-extends g c = Extends-trans c.in_ok-sets.ensures.extends (Extends-trans c.in_ok-scope.ensures.extends (Extends-trans c.in_ok-firsts.ensures.extends c.in_ok-finding.ensures.extends))

pub returns-clause-checked : goal.returns-clause-checked
returns-clause-checked g c =
    let firsts = Extends-trans c.in_ok-sets.ensures.extends (Extends-trans c.in_ok-scope.ensures.extends c.in_ok-firsts.ensures.extends) in
    checks c.args.report.now c.args.expected.now c.in_ok-scope.scope c.in_ok-ends.ends.items c.in_ok-finding.finding c.in_ok-checked.field-0 c.requires.options firsts c.in_ok-finding.ensures.extends
    (IsSet-extends c.in_ok-firsts.ensures.extends c.in_ok-scope.scope (has_end c.args.report.now) c.in_ok-scope.ensures.ended)
    (rw c.as_slice-4.ensures.value at c.in_ok-ends.ensures _ c.in_ok-firsts.ensures.ends)
    (rw c.as_slice-5.ensures.value at c.in_ok-finding.ensures.found) c.in_ok-checked.ensures
