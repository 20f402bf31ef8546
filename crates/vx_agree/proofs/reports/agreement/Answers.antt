use Rattle.std.proofs.Common.{sym}
use Rattle.vx_space.proofs.Spaces.{Extends-trans}
use Rattle.vx_agree.proofs.Merging.{ends_ascend}
use Rattle.vx_bdd_tools.proofs.ListedSets.{AreSetsOf-extends}
use Rattle.vx_agree.proofs.reports.agreement.Goals as goal

pub sets_of-requires : goal.sets_of-requires
sets_of-requires g c = rw (c.as_slice.ensures, sym c.requires.options) c.requires.one.numbered.reduced

pub sets_of-requires-2 : goal.sets_of-requires-2
sets_of-requires-2 g c = rw (c.as_slice-2.ensures, c.in_ok-one_sets.ensures.extends.options, sym c.requires.options, c.requires.names) c.requires.other.numbered.reduced

pub agreement_of-requires-clause-one : goal.agreement_of-requires-clause-one
agreement_of-requires-clause-one g c = rw c.as_slice-3.ensures.value (AreSetsOf-extends c.in_ok-sets.ensures.extends _ _ (rw c.as_slice.ensures at c.in_ok-one_sets.ensures.ok))

pub agreement_of-requires-clause-sets : goal.agreement_of-requires-clause-sets
agreement_of-requires-clause-sets g c = rw c.as_slice-4.ensures.value (rw c.as_slice-2.ensures at c.in_ok-sets.ensures.ok)

pub agreement_of-requires-clause-ends : goal.agreement_of-requires-clause-ends
agreement_of-requires-clause-ends g c = ends_ascend c.args.one.now c.requires.one

pub agreement_of-requires-clause-other_ends : goal.agreement_of-requires-clause-other_ends
agreement_of-requires-clause-other_ends g c = ends_ascend c.args.other.now c.requires.other

pub returns-clause-extends : goal.returns-clause-extends
returns-clause-extends g c = Extends-trans c.in_ok-one_sets.ensures.extends (Extends-trans c.in_ok-sets.ensures.extends c.agreement_of.ensures.extends)
