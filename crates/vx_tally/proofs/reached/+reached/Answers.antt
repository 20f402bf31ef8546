use Rattle.vx_space.proofs.Spaces.{Extends-trans}
use Rattle.vx_tally.proofs.ReachedLaws.{IsSet-divided, AreReached-extends, AreReached-noted}
use Rattle.vx_tally.proofs.reached.+reached.Goals as goal

pub returns-clause-ok : goal.returns-clause-ok
returns-clause-ok g t c = IsSet-divided _ c.args.nodes.now c.args.set c.args.to.place c.args.to.more c.divided-parts.result c.in_ok-below.below c.in_ok-above.above _ c.divided-parts.ensures c.in_ok-below.ensures.extends (rw c.left.ensures at c.in_ok-below.ensures.ok) c.in_ok-above.ensures.extends (rw c.left-2.ensures at c.in_ok-above.ensures.ok) c.in_ok-id.ensures.ok

pub returns-clause-answers : goal.returns-clause-answers
returns-clause-answers g t c =
    let e = c.in_ok-id.ensures.extends in
    AreReached-noted (g.S.Space.sets c.either_set.new.space) c.args.nodes.now c.reached-2.new.known c.put.new.self (record { a = c.args.set; b = c.args.set; first = c.args.to; second = c.args.to }) c.in_ok-id.id (Extends-trans c.in_ok-below.ensures.extends (Extends-trans c.in_ok-above.ensures.extends e)) c.requires.known (AreReached-extends e c.args.nodes.now _ c.in_ok-above.ensures.answers) (returns-clause-ok g t c) c.in_ok-put.ensures
