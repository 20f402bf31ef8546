use Rattle.vx_verify.proofs.JoinLaws.{joining_last, joining_start, joining_step}
use Rattle.vx_verify.proofs.store.Store.joined.Goals as goal

pub loop-both-init : goal.loop-both-init
loop-both-init c = joining_start c.args.program.now c.requires.ranked c.args.self.now c.args.apart.now.items c.args.shared c.requires.store c.requires.apart c.requires.shared

pub joined_one-requires-clause-store : goal.joined_one-requires-clause-store
joined_one-requires-clause-store c = c.loop-both.invariant.later.store

pub joined_one-requires-clause-merged : goal.joined_one-requires-clause-merged
joined_one-requires-clause-merged c = c.loop-both.invariant.within

pub joined_one-requires-clause-both : goal.joined_one-requires-clause-both
joined_one-requires-clause-both c =
    joining_last c.args.program.now c.args.self.now c.loop-both.self c.args.apart.now.items c.loop-both.apart.items c.pop.new.self.items c.in-Some.both c.args.shared c.loop-both.merged
    c.loop-both.invariant c.in-Some.ensures.items c.requires.store

pub loop-both-preserved : goal.loop-both-preserved
loop-both-preserved c =
    joining_step c.args.program.now c.args.self.now c.loop-both.self c.joined_one.new.self c.args.apart.now.items c.loop-both.apart.items c.pop.new.self.items c.in-Some.both c.args.shared
    c.loop-both.merged c.in_ok-merged.merged c.loop-both.invariant c.in-Some.ensures.items c.in_ok-merged.ensures
