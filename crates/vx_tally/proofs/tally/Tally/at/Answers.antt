use Rattle.std.proofs.Common.{◌^◌, ◌∙◌, ap, arith}
use Rattle.vx_tally.specs.Tally.{sum_of}
use Rattle.vx_tally.proofs.NodeLaws.{sum-end}
use Rattle.vx_tally.proofs.TallyLaws.{walk-step, walk-end}
use Rattle.vx_tally.proofs.tally.Tally.at.Goals as goal

pub walking-preserved : goal.walking-preserved
walking-preserved c =
    let number = rw c.nodes.ensures at c.edge_taken-next.ensures.number in (
      omega (arith, c.edge_taken-next.ensures.falls, c.walking.invariant.0),
      walk-step c.walking.sum c.walking.edge.more c.saturating_add-so_far.result _ _ (2 ^ 64) c.saturating_add-so_far.ensures number ∙ c.walking.invariant.1,
    )

pub returns-then-edge-eq0 : goal.returns-then-edge-eq0
returns-then-edge-eq0 c =
    let none = ap (λ p. sum_of c.args.self.now.nodes p c.args.c.now) c.if-edge-eq0.true ∙ sum-end c.args.self.now.nodes c.args.c.now in
    walk-end c.walking.sum c.walking.edge.more c.saturating_add-so_far.result _ _ (2 ^ 64) c.saturating_add-so_far.ensures none c.walking.invariant.1
