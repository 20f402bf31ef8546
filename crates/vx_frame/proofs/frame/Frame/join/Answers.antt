use Rattle.vx_space.proofs.Spaces.{Extends-trans, IsSet-extends}
use Rattle.vx_cond.proofs.CondLaws.{AreDisjoint-extends}
use Rattle.vx_cond.proofs.RowLaws.{IsRow-extends}
use Rattle.vx_frame.proofs.FrameLaws.{IsFrame-locals, IsFrame-stack, IsFrame-scope_known, IsFrame-one_scope, IsFrameOf-joined, shape_of-joined}
use Rattle.vx_frame.proofs.frame.Frame.join.Goals as goal

pub join-requires-clause-first : goal.join-requires-clause-first
join-requires-clause-first g c = IsFrame-locals _ c.args.self.now c.requires.first

pub join-requires-clause-second : goal.join-requires-clause-second
join-requires-clause-second g c = IsFrame-locals _ c.args.other.now c.requires.second

pub join-requires-2-clause-first : goal.join-requires-2-clause-first
join-requires-2-clause-first g c = IsRow-extends _ c.in_ok-locals.ensures.extends _ (IsFrame-stack _ c.args.self.now c.requires.first)

pub join-requires-2-clause-second : goal.join-requires-2-clause-second
join-requires-2-clause-second g c = IsRow-extends _ c.in_ok-locals.ensures.extends _ (IsFrame-stack _ c.args.other.now c.requires.second)

pub join-requires-2-clause-disjoint : goal.join-requires-2-clause-disjoint
join-requires-2-clause-disjoint g c =
    let apart = AreDisjoint-extends c.in_ok-locals.ensures.extends (IsFrame-scope_known _ c.args.self.now c.requires.first) (IsFrame-scope_known _ c.args.other.now c.requires.second) c.requires.disjoint in
    rw (IsFrame-one_scope _ c.args.self.now c.requires.first, IsFrame-one_scope _ c.args.other.now c.requires.second) apart

pub returns-clause-extends : goal.returns-clause-extends
returns-clause-extends g c = Extends-trans c.in_ok-locals.ensures.extends c.in_ok-stack.ensures.extends

pub returns-clause-scope : goal.returns-clause-scope
returns-clause-scope g c = IsSet-extends c.in_ok-stack.ensures.extends _ _ c.in_ok-locals.ensures.scope

pub returns-clause-shape : goal.returns-clause-shape
returns-clause-shape g c = shape_of-joined c.args.self.now c.args.other.now _ _ c.requires.shapes c.in_ok-locals.ensures.extends c.in_ok-stack.ensures.extends c.in_ok-locals.ensures.ok c.in_ok-stack.ensures.ok

pub returns-clause-ok : goal.returns-clause-ok
returns-clause-ok g c = IsFrameOf-joined (g.met.S.Space.lawful c.join-2.new.space) c.args.self.now c.args.other.now _ _ c.requires.first c.requires.second c.requires.shapes c.in_ok-locals.ensures.extends c.in_ok-stack.ensures.extends c.in_ok-locals.ensures.ok c.in_ok-locals.ensures.scope c.in_ok-stack.ensures.ok c.in_ok-stack.ensures.scope
