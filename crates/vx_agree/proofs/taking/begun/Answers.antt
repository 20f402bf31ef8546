use Rattle.vx_agree.proofs.Taken.{IsBegun-none, IsBegun-some}
use Rattle.vx_agree.proofs.taking.begun.Goals as goal

pub returns-then-is_never : goal.returns-then-is_never
returns-then-is_never g c = IsBegun-none (g.met.S.Space.lawful c.args.space.now) c.args.piece c.args.condition _ (c.is_never.ensures.0 c.if-is_never.true) c.new-entries.ensures.items

pub returns : goal.returns
returns g c = IsBegun-some (g.S.Space.sets c.args.space.now) c.args.piece c.args.condition _ c.requires (rw (c.in_ok-push.ensures.items, c.new-entries.ensures.items))
