use Rattle.vx_value.specs.Slot.{slot_cmp}
use Rattle.vx_cond.proofs.SideLaws.{IsRow-scope_known}
use Rattle.vx_frames.proofs.LocalLaws.{AreAppended-top}
use Rattle.vx_frames.proofs.locals.put_top.Goals as goal

pub one-requires : goal.one-requires
one-requires g c = rw c.scope.ensures (IsRow-scope_known slot_cmp _ c.args.locals.now c.requires)

pub returns : goal.returns
returns g c = rw c.in_ok-push.ensures.ok (AreAppended-top _ c.args.locals.now c.scope.result c.in_ok-top.top c.requires c.scope.ensures c.in_ok-top.ensures.scope c.in_ok-top.ensures.ok)
