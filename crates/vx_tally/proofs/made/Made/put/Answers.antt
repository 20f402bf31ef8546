use Rattle.vx_tally.proofs.MadeLaws.{IsPut-put}
use Rattle.vx_tally.proofs.made.Made.put.Goals as goal

pub returns : goal.returns
returns c =
    let stored = c.in_ok-index.ensures.stored in
    rw (← c.self.view_is) (IsPut-put c.args.node stored.0 c.self.inside.options c.self.inside.nodes.keys c.insert_full.new.self.keys c.in_ok-index.index (rw (← c.self.view_is) at c.requires.nodes) (rw (← c.self.view_is) at c.requires.node) c.in_ok-index.ensures.keys stored.1 stored.2)
