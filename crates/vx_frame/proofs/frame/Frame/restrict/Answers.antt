use Rattle.vx_space.proofs.Spaces.{Extends-trans, IsSet-extends}
use Rattle.vx_cond.proofs.RowLaws.{IsRow-extends}
use Rattle.vx_frame.proofs.FrameLaws.{IsFrame-locals, IsFrame-stack, IsFrameOf-restricted, shape_of-restricted}
use Rattle.vx_frame.proofs.frame.Frame.restrict.Goals as goal

pub restrict-requires-clause-valid : goal.restrict-requires-clause-valid
restrict-requires-clause-valid g c = IsFrame-locals _ c.args.self.now c.requires.valid

pub restrict-requires-2-clause-valid : goal.restrict-requires-2-clause-valid
restrict-requires-2-clause-valid g c = IsRow-extends _ c.in_ok-locals.ensures.extends _ (IsFrame-stack _ c.args.self.now c.requires.valid)

pub returns-clause-extends : goal.returns-clause-extends
returns-clause-extends g c = Extends-trans c.in_ok-locals.ensures.extends c.in_ok-stack.ensures.extends

pub returns-clause-scope : goal.returns-clause-scope
returns-clause-scope g c = IsSet-extends c.in_ok-stack.ensures.extends _ _ c.in_ok-locals.ensures.scope

pub returns-clause-shape : goal.returns-clause-shape
returns-clause-shape g c = shape_of-restricted c.args.self.now c.args.within _ _ c.in_ok-locals.ensures.extends c.in_ok-stack.ensures.extends c.in_ok-locals.ensures.ok c.in_ok-stack.ensures.ok

pub returns-clause-ok : goal.returns-clause-ok
returns-clause-ok g c = IsFrameOf-restricted (g.met.S.Space.lawful c.restrict-2.new.space) c.args.self.now c.args.within _ _ c.requires.valid c.requires.known c.in_ok-locals.ensures.extends c.in_ok-stack.ensures.extends c.in_ok-locals.ensures.ok c.in_ok-locals.ensures.scope c.in_ok-stack.ensures.ok c.in_ok-stack.ensures.scope
