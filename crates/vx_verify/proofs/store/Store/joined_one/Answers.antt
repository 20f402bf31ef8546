use Rattle.vx_verify.proofs.JoinLaws.{joined_itself, joined_put}
use Rattle.vx_verify.proofs.StoreLaws.{stack_kept}
use Rattle.vx_verify.proofs.store.Store.joined_one.Goals as goal

pub pushed-requires-clause-under : goal.pushed-requires-clause-under
pushed-requires-clause-under c = stack_kept c.args.self.now c.common_type.new.self c.args.merged c.in_ok-top.ensures.later c.requires.merged

pub returns-then-merged-both : goal.returns-then-merged-both
returns-then-merged-both c =
    joined_itself c.args.program.now c.args.self.now c.common_type.new.self c.args.both c.args.merged c.in_ok-top.top c.requires.store c.requires.both c.in_ok-top.ensures
    c.if-top-both.true c.if-merged-both.true

pub returns : goal.returns
returns c =
    joined_put c.args.program.now c.args.self.now c.common_type.new.self c.pushed.new.self c.args.both c.args.merged c.in_ok-top.top c.in_ok-stack.stack c.requires.store c.requires.merged
    c.in_ok-top.ensures c.in_ok-stack.ensures.ok
