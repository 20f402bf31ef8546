use Rattle.std.proofs.Common.{◌∙◌, sym}
use Rattle.vx_cond.proofs.CondLaws.{IsCond-extends}
use Rattle.vx_families.proofs.Tops.{lifting2_cond}
use Rattle.vx_space.proofs.Spaces.{Extends-trans}
use Rattle.vx_init.proofs.ClimbLaws.{risen_at, scope_known}
use Rattle.vx_init.specs.Rises.{rise_cmp}
use Rattle.vx_init.proofs.rising.risen.Goals as goal

pub states_inside-requires-clause-known : goal.states_inside-requires-clause-known
states_inside-requires-clause-known g c = rw c.scope.ensures (scope_known _ c.args.rises.now c.requires.rises)

pub states_inside-requires-clause-inside : goal.states_inside-requires-clause-inside
states_inside-requires-clause-inside g c = rw c.scope.ensures c.requires.inside

pub zip-requires-clause-first : goal.zip-requires-clause-first
zip-requires-clause-first g c = IsCond-extends rise_cmp c.in_ok-states.ensures.extends c.args.rises.now c.requires.rises

pub zip-requires-clause-scopes : goal.zip-requires-clause-scopes
zip-requires-clause-scopes g c = sym (c.in_ok-states.ensures.scope ∙ c.scope.ensures)

pub returns-clause-extends : goal.returns-clause-extends
returns-clause-extends g c = Extends-trans c.in_ok-states.ensures.extends c.in_ok-more.ensures.extends

pub returns-clause-cond : goal.returns-clause-cond
returns-clause-cond g c = lifting2_cond rise_cmp _ _ _ _ c.in_ok-more.more c.in_ok-more.ensures.ok

pub returns-clause-at : goal.returns-clause-at
returns-clause-at g c = risen_at c.args.program.now (g.S.Space.sets c.args.space.now) (g.S.Space.sets c.states_inside.new.space) _ c.args.heap.now c.args.below c.args.class c.blocked-blocking.result c.args.rises.now c.in_ok-states.states c.in_ok-more.more _ (λ r st y h. h) c.blocked-blocking.ensures c.requires.rises c.in_ok-states.ensures.extends (rw c.scope.ensures at c.in_ok-states.ensures.at) c.in_ok-more.ensures.ok
