use Rattle.std.proofs.Common.{sym, ◌∙◌}
use Rattle.vx_tally.proofs.MadeLaws.{edge_eq-exact, nodes_eq-exact}
use Rattle.vx_tally.proofs.tally.Tally.is_same.Goals as goal

pub returns-then-eq : goal.returns-then-eq
returns-then-eq c = λ same.
    let root = sym c.root.ensures ∙ edge_eq-exact _ _ (sym c.eq.ensures ∙ c.if-eq.true) ∙ c.root-2.ensures in
    let nodes = sym c.nodes.ensures ∙ nodes_eq-exact _ _ (sym c.eq-then-eq.ensures ∙ same) ∙ c.nodes-then-eq.ensures in
    λ i. record { nodes = nodes i; root = root i }
