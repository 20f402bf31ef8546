use Rattle.std.proofs.Common.{sym, ◌∙◌}
use Rattle.vx_space.proofs.Spaces.{Extends-trans}
use Rattle.vx_bdd_tools.proofs.ListedSets.{AreSetsOf-extends}
use Rattle.vx_explain.proofs.explained.explain.Goals as goal

pub sets_of-requires : goal.sets_of-requires
sets_of-requires g c = rw (c.as_slice.ensures, sym c.requires.options) c.requires.lawful.numbered.reduced

pub ended-requires : goal.ended-requires
ended-requires g c = rw c.as_slice-2.ensures.value (rw c.as_slice.ensures at c.in_ok-sets.ensures.ok)

pub all_explained-requires-clause-sets : goal.all_explained-requires-clause-sets
all_explained-requires-clause-sets g c = rw c.as_slice-3.ensures.value (AreSetsOf-extends c.in_ok-scope.ensures.extends _ _ (rw c.as_slice.ensures at c.in_ok-sets.ensures.ok))

pub all_explained-requires-clause-options : goal.all_explained-requires-clause-options
all_explained-requires-clause-options g c = c.requires.options ∙ sym (Extends-trans c.in_ok-sets.ensures.extends c.in_ok-scope.ensures.extends).options

pub returns-clause-extends : goal.returns-clause-extends
returns-clause-extends g c = Extends-trans c.in_ok-sets.ensures.extends (Extends-trans c.in_ok-scope.ensures.extends c.all_explained.ensures.extends)

pub returns-clause-explained : goal.returns-clause-explained
returns-clause-explained g c = rw (c.as_slice-4.ensures.value, c.in_ok-subjects.ensures) at c.all_explained.ensures.explained
