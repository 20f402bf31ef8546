use Rattle.std.proofs.Common.{sym}
use Rattle.vx_space.proofs.Spaces.{Extends-trans}
use Rattle.vx_tally.proofs.ListedLaws.{IsListing-start, IsListing-step, IsListing-all, lesser-first}
use Rattle.vx_tally.proofs.listing.listed_numbers.Goals as goal

pub numbers-init : goal.numbers-init
numbers-init g c = rw c.new-leaves.ensures.items (IsListing-start (g.S.Space.sets c.args.space.now) c.args.tally.now c.args.within c.requires.known)

pub list_greatest-requires-clause-tally : goal.list_greatest-requires-clause-tally
list_greatest-requires-clause-tally g c = rw c.numbers.invariant.extends.options c.requires.tally

pub list_greatest-requires-clause-known : goal.list_greatest-requires-clause-known
list_greatest-requires-clause-known g c = c.numbers.invariant.rest_known

pub returns-in_err-left-clause-extends : goal.returns-in_err-left-clause-extends
returns-in_err-left-clause-extends g c = Extends-trans c.numbers.invariant.extends c.list_greatest.ensures.extends

pub numbers-smaller : goal.numbers-smaller
numbers-smaller g c = lesser-first (g.S.Space.sets c.list_greatest.new.space) c.args.tally.now c.args.within c.numbers.rest c.in-Some.left c.numbers.leaves.items c.list_greatest.new.leaves.items c.requires.fit c.numbers.invariant (rw c.in-Some.is at c.in_ok-left.ensures.ok)

pub numbers-preserved : goal.numbers-preserved
numbers-preserved g c = IsListing-step (g.met.S.Space.lawful c.list_greatest.new.space) c.args.tally.now c.args.within c.numbers.rest c.in-Some.left c.numbers.leaves.items c.list_greatest.new.leaves.items c.requires.fit c.numbers.invariant (rw c.in-Some.is at c.in_ok-left.ensures.ok)

pub returns-in-None-clause-extends : goal.returns-in-None-clause-extends
returns-in-None-clause-extends g c = Extends-trans c.numbers.invariant.extends c.list_greatest.ensures.extends

pub returns-in-None-clause-ok : goal.returns-in-None-clause-ok
returns-in-None-clause-ok g c =
    let none = rw c.in-None.is at c.in_ok-left.ensures.ok in
    rw none.1 (IsListing-all (g.met.S.Space.lawful c.numbers.space) c.args.tally.now c.args.within c.numbers.rest c.numbers.leaves.items c.numbers.invariant none.0 none.2)
