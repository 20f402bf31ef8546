use Rattle.vx_cond.proofs.CondLaws.{IsCond-extends}
use Rattle.vx_space.proofs.Spaces.{Extends-trans}
use Rattle.vx_value.specs.Slot.{slot_cmp}
use Rattle.vx_effects.proofs.Copied.{element-any, element-fitting}
use Rattle.vx_effects.proofs.copying.element.Goals as goal

pub where_fitting-requires : goal.where_fitting-requires
where_fitting-requires g c = record { value = c.in_ok-value.ensures.ok.is_cond }

pub restrict-requires-clause-valid : goal.restrict-requires-clause-valid
restrict-requires-clause-valid g c = IsCond-extends slot_cmp c.in_ok-fitting.ensures.extends c.in_ok-value.value c.in_ok-value.ensures.ok.is_cond

pub returns-clause-extends : goal.returns-clause-extends
returns-clause-extends g c = Extends-trans c.in_ok-value.ensures.extends (Extends-trans c.in_ok-fitting.ensures.extends c.in_ok-part.ensures.extends)

pub returns-clause-ok : goal.returns-clause-ok
returns-clause-ok g c = rw c.in-Some.is (element-fitting c.args.program.now c.in-Some.component (g.met.S.Space.lawful c.restrict.new.space) c.in_ok-value.ensures.extends c.in_ok-fitting.ensures.extends c.in_ok-part.ensures.extends c.args.heap.now c.args.array c.args.cell c.args.within c.in_ok-fitting.fitting c.in_ok-value.value c.in_ok-part.part c.requires.heap c.requires.known c.in_ok-value.ensures.ok c.in_ok-fitting.ensures.set c.in_ok-part.ensures.ok)
