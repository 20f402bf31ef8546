use Rattle.vx_value.specs.Slot.{slot_cmp}
use Rattle.vx_cond.proofs.RowSteps.{IsRow-push}
use Rattle.vx_frames.proofs.LocalLaws.{IsAppended-long, IsAppended-short}
use Rattle.vx_frames.proofs.locals.put_value.Goals as goal

pub returns-then-not-is_long : goal.returns-then-not-is_long
returns-then-not-is_long g c = rw c.in_ok-push.ensures.ok (IsAppended-short _ c.args.locals.now c.args.value c.begins_long-is_long.result c.begins_long-is_long.ensures c.if-not-is_long.true c.requires.row c.requires.value c.requires.scope)

pub put_top-requires : goal.put_top-requires
put_top-requires g c = rw c.in_ok-push.ensures.ok (IsRow-push slot_cmp _ c.args.locals.now c.args.value c.requires.row c.requires.value c.requires.scope)

pub returns : goal.returns
returns g c = IsAppended-long _ c.args.locals.now _ c.args.value c.begins_long-is_long.result c.begins_long-is_long.ensures c.if-not-is_long.false c.requires.row c.requires.value c.requires.scope (rw c.in_ok-push.ensures.ok at c.in_ok-put_top.ensures)
