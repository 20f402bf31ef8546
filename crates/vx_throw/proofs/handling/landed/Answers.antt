use Rattle.std.proofs.Common.{arith, refl}
use Rattle.vx_group.proofs.GroupLaws.{IsGroup-one_scope, IsGroup-path_known}
use Rattle.vx_throw.proofs.LandingLaws.{landed-gives}
use Rattle.vx_throw.proofs.handling.landed.Goals as goal

pub restrict-requires-clause-known : goal.restrict-requires-clause-known
restrict-requires-clause-known g c = rw c.path.ensures (IsGroup-path_known _ c.args.group c.requires.group)

pub put_top-requires-clause-scope : goal.put_top-requires-clause-scope
put_top-requires-clause-scope g c = rw c.take_top-below.ensures (IsGroup-one_scope _ c.args.group c.requires.group)

pub put_top-requires-clause-operands : goal.put_top-requires-clause-operands
put_top-requires-clause-operands g c = rw c.in_ok-stack.ensures (omega arith)

pub returns-clause-gives : goal.returns-clause-gives
returns-clause-gives g c = landed-gives (g.met.S.Space.lawful c.restrict.new.space) c.in_ok-object.ensures.extends c.args.group c.put_top.result c.args.objects.now c.in_ok-object.object c.args.handler c.requires.group c.requires.objects c.requires.inside (rw c.path.ensures at c.in_ok-object.ensures.ok) (rw (c.put_top.ensures, c.take_top-below.ensures, c.in_ok-stack.ensures) refl)
