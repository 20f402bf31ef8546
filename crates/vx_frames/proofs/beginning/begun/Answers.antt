use Rattle.vx_frame.proofs.FrameLaws.{IsFrame-locals, IsFrame-of}
use Rattle.vx_frames.proofs.BegunLaws.{IsBegun-made, no_locals}
use Rattle.vx_frames.proofs.LocalLaws.{AreArguments-at}
use Rattle.vx_frames.proofs.beginning.begun.Goals as goal

pub put_locals-requires-clause-row : goal.put_locals-requires-clause-row
put_locals-requires-clause-row g c = IsFrame-locals _ c.in_ok-frame.frame (IsFrame-of _ _ c.in_ok-frame.frame c.in_ok-frame.ensures.ok)

pub put_locals-requires-clause-none : goal.put_locals-requires-clause-none
put_locals-requires-clause-none g c = no_locals c.in_ok-frame.frame _ c.in_ok-frame.ensures.shape

pub put_locals-requires-clause-values : goal.put_locals-requires-clause-values
put_locals-requires-clause-values g c = AreArguments-at _ c.args.path _ _ _ c.args.values.items c.in_ok-frame.ensures.scope c.max_locals-count.ensures c.requires.values

pub returns : goal.returns
returns g c = IsBegun-made c.args.program.now _ c.args.path c.args.kind c.args.method c.args.values.items _ c.in_ok-frame.frame c.put_locals.new.locals c.max_locals-count.ensures c.in_ok-frame.ensures.scope c.in_ok-frame.ensures.shape c.in_ok-frame.ensures.ok c.in_ok-put_locals.ensures
