use Rattle.std.proofs.Common.{refl}
use Rattle.vx_group.proofs.GroupLaws.{IsGroup-one_scope}
use Rattle.vx_frames.proofs.WakeLaws.{IsWoken-made}
use Rattle.vx_frames.proofs.waking.woken.Goals as goal

pub put_top-requires-clause-scope : goal.put_top-requires-clause-scope
put_top-requires-clause-scope g c = rw c.take_top-below.ensures (IsGroup-one_scope _ c.args.group c.requires)

pub returns : goal.returns
returns g c = IsWoken-made _ c.args.group _ c.requires (rw (c.put_top.ensures, c.awake-frame.ensures, c.take_top-below.ensures) refl)
