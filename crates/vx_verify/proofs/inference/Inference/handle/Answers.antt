use Rattle.vx_verify.proofs.QuietLaws.{quiet_handled, quiet_made}
use Rattle.vx_verify.proofs.inference.Inference.handle.Goals as goal

pub returns-then-is_quiet : goal.returns-then-is_quiet
returns-then-is_quiet c =
    quiet_handled c.args.subject.now c.args.self.now c.args.at c.args.before c.args.quiet.now c.is_quiet.result c.requires.subject c.requires.inference c.requires.quiet c.is_quiet.ensures
    c.if-is_quiet.true

pub returns-then-not-handled : goal.returns-then-not-handled
returns-then-not-handled c = rw c.if-not-handled.true at c.in_ok-handled.ensures

pub returns : goal.returns
returns c =
    quiet_made c.args.subject.now c.args.self.now c.handle_rows.new.self c.args.at c.args.before c.around.result c.requires.inference c.requires.stands
    (rw c.if-not-handled.false at c.in_ok-handled.ensures) (rw c.as_slice.ensures at c.around.ensures.rows) c.around.ensures.locals
