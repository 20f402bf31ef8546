use Rattle.std.specs.Ordering.{bool_cmp}
use Rattle.vx_cond.specs.Slots.{slot_at}
use Rattle.vx_group_states.proofs.SettleLaws.{lifting_cond}
use Rattle.vx_heap.specs.Heap.{class_at_slot}
use Rattle.vx_ready.proofs.Yes.{IsSet-asked}
use Rattle.vx_effects.specs.Copying.{fits_class}
use Rattle.vx_effects.proofs.Copied.{scoped}
use Rattle.vx_effects.proofs.copying.where_fitting.Goals as goal

pub where_yes-requires : goal.where_yes-requires
where_yes-requires g c = lifting_cond bool_cmp _ _ _ c.in_ok-answers.answers c.in_ok-answers.ensures.ok

pub returns-clause-set : goal.returns-clause-set
returns-clause-set g c =
    let s0 = g.S.Space.sets c.args.space.now in
    let value = c.args.value.now in
    IsSet-asked s0 s0 (g.S.Space.sets c.map.new.space) _ (λ slot. fits_class c.args.program.now c.args.component (class_at_slot c.args.heap.now slot)) value.scope (slot_at s0 value) value c.in_ok-answers.answers c.where_yes.result (λ s b h. h) (scoped s0 value c.requires.value) c.in_ok-answers.ensures.ok c.where_yes.ensures
