use Rattle.std.proofs.Common.{refl}
use Rattle.vx_frames.proofs.BegunLaws.{AreLocals-made}
use Rattle.vx_frames.proofs.locals.put_locals.Goals as goal

pub put_tops-requires : goal.put_tops-requires
put_tops-requires g c = c.in_ok-put_values.ensures.put.is_row

pub returns : goal.returns
returns g c = AreLocals-made _ c.args.locals.now.scope c.args.count _ c.args.values.items c.put_values.new.locals _ c.in_ok-put_values.ensures.put c.in_ok-put_values.ensures.within (rw (c.from.ensures, c.len.ensures) refl) c.in_ok-put_tops.ensures
