use Rattle.std.proofs.Common.{arith}
use Rattle.vx_bdd_tools.proofs.ListedSets.{set_past}
use Rattle.vx_bdd_tools.proofs.sets.set_of.Goals as goal

pub returns-in-None : goal.returns-in-None
returns-in-None g c = λ nodes h. rw c.never.ensures (set_past (g.met.S.Space.lawful c.args.space.now) nodes c.args.sets.now c.args.node (omega (arith, c.in-None.ensures.lookup)) h)
