use Rattle.std.proofs.Common.{◌≡◌, ◌-◌}
use Rattle.vx_bdd_tools.specs.Nodes.{walk}
use Rattle.vx_report.proofs.meaning.holds_in.Given as goal

abbrev pub invariant-loop : goal.invariant-loop
invariant-loop l = walk l.nodes (l.node - l.counter) l.at l.c ≡ walk l.nodes l.node l.node l.c
