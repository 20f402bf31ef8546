use Rattle.std.proofs.Common.{sym}
use Rattle.vx_space.proofs.Spaces.{Extends-trans, IsSet-extends}
use Rattle.vx_bdd_tools.proofs.ListedSets.{AreSetsOf-extends}
use Rattle.vx_cover.specs.Covers.{has_end}
use Rattle.vx_compare.proofs.Sided.{are_sides}
use Rattle.vx_compare.proofs.comparing.sides_of.Goals as goal

pub sets_of-requires : goal.sets_of-requires
sets_of-requires g c = rw (c.as_slice.ensures, sym c.requires.options) c.requires.lawful.numbered.reduced

pub ended-requires : goal.ended-requires
ended-requires g c = rw c.as_slice-2.ensures.value (rw c.as_slice.ensures at c.in_ok-sets.ensures.ok)

pub first_ends-requires : goal.first_ends-requires
first_ends-requires g c = rw c.as_slice-3.ensures.value (AreSetsOf-extends c.in_ok-ended.ensures.extends _ _ (rw c.as_slice.ensures at c.in_ok-sets.ensures.ok))

pub minus-requires-clause-second : goal.minus-requires-clause-second
minus-requires-clause-second g c = c.in_ok-firsts.ensures.extends.known c.in_ok-ended.ended c.in_ok-ended.ensures.ended.known

pub returns-clause-extends : goal.returns-clause-extends
returns-clause-extends g c = Extends-trans c.in_ok-sets.ensures.extends (Extends-trans c.in_ok-ended.ensures.extends (Extends-trans c.in_ok-firsts.ensures.extends c.in_ok-set.ensures.extends))

pub returns-clause-sides : goal.returns-clause-sides
returns-clause-sides g c =
    are_sides (g.met.S.Space.lawful c.first_ends.new.space) c.in_ok-set.ensures.extends c.args.report.now c.in_ok-firsts.firsts.items _ c.in_ok-ended.ended c.in_ok-set.set c.in_ok-sides.sides.items _ c.in_ok-firsts.ensures.ends c.as_slice-4.ensures.value c.in_ok-sides.ensures
    (IsSet-extends c.in_ok-firsts.ensures.extends c.in_ok-ended.ended (has_end c.args.report.now) c.in_ok-ended.ensures.ended) (rw c.always-always.ensures at c.in_ok-set.ensures.ok) c.in_ok-push.ensures.items

pub returns-clause-ended : goal.returns-clause-ended
returns-clause-ended g c = IsSet-extends (Extends-trans c.in_ok-firsts.ensures.extends c.in_ok-set.ensures.extends) c.in_ok-ended.ended (has_end c.args.report.now) c.in_ok-ended.ensures.ended
