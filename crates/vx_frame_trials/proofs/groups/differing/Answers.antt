use Rattle.std.proofs.Common.{refl}
use Rattle.vx_value.specs.Slot.{slot_cmp}
use Rattle.vx_cond.proofs.CondLaws.{IsCond-of}
use Rattle.vx_frame_trials.proofs.CalledLaws.{IsShort-made, inside_always}
use Rattle.vx_frame_trials.proofs.groups.differing.Goals as goal

pub one-requires : goal.one-requires
one-requires g c = rw c.always.ensures (g.met.S.Space.lawful c.args.space.now).always_known

pub overwrite-requires-clause-old : goal.overwrite-requires-clause-old
overwrite-requires-clause-old g c = IsCond-of slot_cmp _ _ _ c.in_ok-one.ensures.ok

pub overwrite-requires-clause-new : goal.overwrite-requires-clause-new
overwrite-requires-clause-new g c = IsCond-of slot_cmp _ _ _ c.in_ok-two.ensures.ok

pub overwrite-requires-clause-inside : goal.overwrite-requires-clause-inside
overwrite-requires-clause-inside g c = rw c.in_ok-one.ensures.scope (inside_always _ (g.met.S.Space.lawful c.args.space.now) _ _ c.always.ensures)

pub returns-clause-short : goal.returns-clause-short
returns-clause-short g c = IsShort-made _ (g.met.S.Space.lawful c.args.space.now) (g.met.S.Space.lawful c.overwrite.new.space) c.args.on c.always.result _ _ c.in_ok-one.one c.in_ok-two.two c.in_ok-both.both refl refl c.always.ensures c.in_ok-one.ensures.ok c.in_ok-two.ensures.ok c.in_ok-both.ensures.ok
