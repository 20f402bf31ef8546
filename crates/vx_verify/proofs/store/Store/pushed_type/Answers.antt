use Rattle.vx_verify.proofs.MadeLaws.{put_on}
use Rattle.vx_verify.proofs.StoreLaws.{stack_kept}
use Rattle.vx_verify.proofs.store.Store.pushed_type.Goals as goal

pub pushed-requires-clause-store : goal.pushed-requires-clause-store
pushed-requires-clause-store c = c.in_ok-top.ensures.ok.later.store

pub pushed-requires-clause-top : goal.pushed-requires-clause-top
pushed-requires-clause-top c = c.in_ok-top.ensures.ok.within

pub pushed-requires-clause-under : goal.pushed-requires-clause-under
pushed-requires-clause-under c = stack_kept c.args.self.now c.put_type.new.self c.args.under c.in_ok-top.ensures.ok.later c.requires.under

pub returns : goal.returns
returns c =
    put_on c.args.self.now c.put_type.new.self _ c.in_ok-top.top c.in_ok-stack.stack c.args.under c.args.item.now c.requires.store c.requires.under c.in_ok-top.ensures.ok c.in_ok-stack.ensures.ok
