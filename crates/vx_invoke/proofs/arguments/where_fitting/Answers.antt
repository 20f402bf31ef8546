use Rattle.std.proofs.Common.{refl}
use Rattle.std.specs.Ordering.{bool_cmp}
use Rattle.vx_cond.specs.Slots.{slot_at}
use Rattle.vx_families.specs.Sorts.{slot_fits}
use Rattle.vx_group_states.proofs.SettleLaws.{lifting_cond}
use Rattle.vx_heap.proofs.CellWrites.{differs_at_all}
use Rattle.vx_java.specs.Checks.{sort_of}
use Rattle.vx_ready.proofs.Yes.{IsSet-asked}
use Rattle.vx_invoke.proofs.arguments.where_fitting.Goals as goal

pub where_yes-requires : goal.where_yes-requires
where_yes-requires g c = lifting_cond bool_cmp _ _ _ c.in_ok-answers.answers c.in_ok-answers.ensures.ok

pub returns-clause-set : goal.returns-clause-set
returns-clause-set g c =
    let start = g.S.Space.sets c.args.space.now in
    let operand = c.args.operand.now in
    IsSet-asked start start (g.S.Space.sets c.map.new.space) _ (slot_fits (sort_of c.args.java_type)) operand.scope (slot_at start operand) operand c.in_ok-answers.answers c.where_yes.result (λ s b h. h) (differs_at_all start operand.scope operand c.requires refl) c.in_ok-answers.ensures.ok c.where_yes.ensures
