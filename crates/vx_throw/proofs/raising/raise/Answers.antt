use Rattle.std.proofs.lemmas.Result.{IfOk-weaker}
use Rattle.vx_cells.proofs.Somewhere.{somewhere_in}
use Rattle.vx_group.proofs.GroupLaws.{IsGroup-path_known, IsGroupIn-group}
use Rattle.vx_space.proofs.Spaces.{Extends-trans}
use Rattle.vx_throw.proofs.RaiseLaws.{made_flight, raised-attempts}
use Rattle.vx_throw.proofs.raising.raise.Goals as goal

pub exception-requires-clause-classes : goal.exception-requires-clause-classes
exception-requires-clause-classes g c = c.requires.bounded.classes

pub exception-requires-clause-heap : goal.exception-requires-clause-heap
exception-requires-clause-heap g c = c.requires.is_heap

pub exception-requires-clause-known : goal.exception-requires-clause-known
exception-requires-clause-known g c = rw c.path-path.ensures (IsGroup-path_known _ c.args.group (IsGroupIn-group _ c.args.callers.now c.args.group c.requires.stands.is_group))

pub exception-requires-clause-somewhere : goal.exception-requires-clause-somewhere
exception-requires-clause-somewhere g c = rw c.path-path.ensures (somewhere_in (g.met.S.Space.lawful c.args.space.now) _ (IsGroup-path_known _ c.args.group (IsGroupIn-group _ c.args.callers.now c.args.group c.requires.stands.is_group)) c.requires.some)

pub exception-requires-clause-message : goal.exception-requires-clause-message
exception-requires-clause-message g c = c.requires.message

pub one-requires : goal.one-requires
one-requires g c = rw c.path-path.ensures (c.in_ok-object.ensures.extends.known _ (IsGroup-path_known _ c.args.group (IsGroupIn-group _ c.args.callers.now c.args.group c.requires.stands.is_group)))

pub throw-requires : goal.throw-requires
throw-requires g c = made_flight c.args.program.now c.args.heap.now c.exception.new.heap c.args.callers.now c.args.group c.args.class.0 c.args.message c.path-path.result c.in_ok-object.object c.in_ok-thrown.thrown c.requires c.path-path.ensures c.in_ok-object.ensures.extends c.in_ok-object.ensures.ok c.in_ok-thrown.ensures.scope c.in_ok-thrown.ensures.ok

pub returns-clause-extends : goal.returns-clause-extends
returns-clause-extends g c = Extends-trans c.in_ok-object.ensures.extends c.throw.ensures.extends

pub returns-clause-raised : goal.returns-clause-raised
returns-clause-raised g c = IfOk-weaker c.throw.result _ _ (λ r h. raised-attempts c.args.program.now c.args.heap.now c.exception.new.heap c.args.callers.now c.args.group c.args.class.0 c.args.message c.path-path.result c.in_ok-object.object c.in_ok-thrown.thrown c.requires c.path-path.ensures c.in_ok-object.ensures.extends c.in_ok-object.ensures.ok c.in_ok-thrown.ensures.scope c.in_ok-thrown.ensures.ok c.throw.new.heap c.throw.new.callers _ h) c.throw.ensures.thrown
