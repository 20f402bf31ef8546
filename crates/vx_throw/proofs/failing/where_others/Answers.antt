use Rattle.std.specs.Ordering.{bool_cmp}
use Rattle.vx_group_states.proofs.SettleLaws.{lifting_cond}
use Rattle.vx_throw.proofs.WrapLaws.{others_are}
use Rattle.vx_throw.proofs.failing.where_others.Goals as goal

pub where_yes-requires : goal.where_yes-requires
where_yes-requires g c = lifting_cond bool_cmp _ _ _ c.in_ok-answers.answers c.in_ok-answers.ensures.ok

pub returns-clause-set : goal.returns-clause-set
returns-clause-set g c = others_are c.args.program.now _ _ c.args.heap.now c.args.objects.now _ c.in_ok-answers.answers c.core_class-error.result.0 c.where_yes.result c.core_class-error.ensures (λ slot b h. h) c.requires.objects c.in_ok-answers.ensures.ok c.where_yes.ensures
