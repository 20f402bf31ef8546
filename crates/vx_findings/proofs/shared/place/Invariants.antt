use Rattle.vx_findings.proofs.Listed.{PlacesFrom}
use Rattle.vx_findings.specs.Shared.{leaves_of}
use Rattle.vx_findings.proofs.shared.place.Given as goal

abbrev pub invariant-loop-i : goal.invariant-loop-i
invariant-loop-i g l = PlacesFrom g.V.Ranked.order l.value (leaves_of l.list) l.i
