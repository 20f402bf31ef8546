use Rattle.vx_space.proofs.Spaces.{Extends-trans}
use Rattle.vx_value.specs.Slot.{slot_cmp}
use Rattle.vx_cond.proofs.CondLaws.{IsCond-of}
use Rattle.vx_heap.proofs.Throughout.{option_throughout, throughout_one}
use Rattle.vx_heap.proofs.lifted.option_value.Goals as goal

pub overwrite-requires-clause-old : goal.overwrite-requires-clause-old
overwrite-requires-clause-old g c = IsCond-of slot_cmp _ _ c.in_ok-zero.zero c.in_ok-zero.ensures.ok

pub overwrite-requires-clause-new : goal.overwrite-requires-clause-new
overwrite-requires-clause-new g c = IsCond-of slot_cmp _ _ c.in_ok-one.one c.in_ok-one.ensures.ok

pub returns-clause-extends : goal.returns-clause-extends
returns-clause-extends g c = Extends-trans (Extends-trans c.in_ok-on.ensures.extends c.in_ok-inside.ensures.extends) c.in_ok-value.ensures.extends

pub returns-clause-ok : goal.returns-clause-ok
returns-clause-ok g c =
    option_throughout (g.met.S.Space.lawful c.overwrite.new.space) c.in_ok-on.ensures.extends c.in_ok-inside.ensures.extends c.in_ok-value.ensures.extends c.args.scope c.in_ok-on.on c.in_ok-inside.inside c.args.option c.in_ok-zero.zero c.in_ok-one.one c.in_ok-value.value
    c.requires.known c.in_ok-on.ensures.ok c.in_ok-inside.ensures.ok
    (throughout_one slot_cmp _ c.args.scope _ c.in_ok-zero.zero c.in_ok-zero.ensures.scope c.in_ok-zero.ensures.ok)
    (throughout_one slot_cmp _ c.in_ok-inside.inside _ c.in_ok-one.one c.in_ok-one.ensures.scope c.in_ok-one.ensures.ok)
    c.in_ok-value.ensures.ok
