use Rattle.std.proofs.Common.{refl}
use Rattle.vx_verify.proofs.Joints.{raised_reached, unreadable_has_none}
use Rattle.vx_verify.specs.States.{state_at}
use Rattle.vx_verify.proofs.inference.Inference.raise.Goals as goal

pub returns-then-not-is_readable : goal.returns-then-not-is_readable
returns-then-not-is_readable c =
    let s = c.args.subject.now in
    unreadable_has_none s c.args.position (state_at c.args.self.now.store s.frame c.args.made) c.is_readable.result c.requires.raising.forced c.is_readable.ensures c.if-not-is_readable.true

pub returns : goal.returns
returns c =
    let s = c.args.subject.now in
    raised_reached s c.args.self.now _ c.args.position c.args.made c.is_readable.result c.requires.subject c.requires.inference c.requires.position c.requires.raising c.is_readable.ensures
    c.if-not-is_readable.false refl c.in_ok-insert.ensures.updates refl refl
