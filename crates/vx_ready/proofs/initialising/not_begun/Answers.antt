use Rattle.std.specs.Ordering.{bool_cmp}
use Rattle.vx_heap.specs.Heap.{inits_at}
use Rattle.vx_java.specs.Initialisation.{is_not}
use Rattle.vx_java.specs.Machine.{init_at}
use Rattle.vx_group_states.proofs.SettleLaws.{lifting_cond}
use Rattle.vx_ready.proofs.Yes.{IsSet-asked}
use Rattle.vx_ready.proofs.initialising.not_begun.Goals as goal

pub where_yes-requires : goal.where_yes-requires
where_yes-requires g c = lifting_cond bool_cmp _ _ _ c.in_ok-answers.answers c.in_ok-answers.ensures.ok

pub returns-clause-set : goal.returns-clause-set
returns-clause-set g c = IsSet-asked (g.S.Space.sets c.args.space.now) (g.S.Space.sets c.states_inside.new.space) (g.S.Space.sets c.map.new.space) _ is_not c.args.path (λ d. init_at (inits_at (g.S.Space.sets c.args.space.now) c.args.heap.now d) c.args.class.0) c.in_ok-states.states c.in_ok-answers.answers c.where_yes.result (λ s b h. h) c.in_ok-states.ensures.at c.in_ok-answers.ensures.ok c.where_yes.ensures
