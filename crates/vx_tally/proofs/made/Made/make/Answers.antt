use Rattle.std.proofs.Common.{sym, ◌∙◌}
use Rattle.vx_tally.proofs.MadeLaws.{IsMade-put, IsMade-same, IsNode-made, edge_eq-exact}
use Rattle.vx_tally.proofs.made.Made.make.Goals as goal

pub returns : goal.returns
returns c = IsMade-put c.args.option c.args.low c.args.high c.args.self.now c.put.new.self _ _ c.requires.nodes c.requires.low_given c.requires.high_given c.min-more.ensures (rw (c.lowered.ensures, c.lowered-2.ensures) at c.in_ok-place.ensures)
