use Rattle.vx_verify.proofs.StartLaws.{double_unread, one_zero, other_unread, two_zeros}
use Rattle.vx_verify.proofs.start.put_unread.Goals as goal

pub returns-in_ok-push-in-Double : goal.returns-in_ok-push-in-Double
returns-in_ok-push-in-Double c =
    two_zeros c.args.item.now c.args.numbers.now.items _ _ c.in_ok-push.ensures.items c.in_ok-push-in-Double.ensures.items (double_unread c.args.item.now c.requires c.in-Double.is)

pub returns-in_default : goal.returns-in_default
returns-in_default c = one_zero c.args.item.now c.args.numbers.now.items _ c.in_ok-push.ensures.items (other_unread c.args.item.now c.requires c.in_default.not-Double)
