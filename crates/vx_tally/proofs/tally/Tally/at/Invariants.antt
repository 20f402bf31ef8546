use Rattle.std.proofs.Common.{◌≡◌, ◌+◌, ◌≤◌, ◌-◌, ◌^◌, length}
use Rattle.std.specs.Prelude.{min}
use Rattle.vx_tally.specs.Tally.{edge_at, number_at}
use Rattle.vx_tally.proofs.tally.Tally.at.Given as goal

abbrev pub invariant-walking : goal.invariant-walking
invariant-walking l = (l.edge.place ≤ length l.self.nodes) × (min (l.sum + edge_at l.self.nodes l.edge l.c) (2 ^ 64 - 1) ≡ min (number_at l.self l.c) (2 ^ 64 - 1))

abbrev pub decreases-walking : goal.decreases-walking
decreases-walking l = l.edge.place
