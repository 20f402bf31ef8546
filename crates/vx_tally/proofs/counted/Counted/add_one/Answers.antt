use Rattle.std.proofs.Common.{refl}
use Rattle.vx_tally.proofs.CountedLaws.{IsOneMore-added}
use Rattle.vx_tally.proofs.counted.Counted.add_one.Goals as goal

pub returns : goal.returns
returns g c = rw (← c.self.view_is) (IsOneMore-added _ _ refl c.add_one.ensures.number c.add_one.ensures.nodes c.add_one.ensures.root c.saturating_add-self-inside.ensures)
