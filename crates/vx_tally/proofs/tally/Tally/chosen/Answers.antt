use Rattle.std.proofs.lemmas.Result.{IfOk-weaker}
use Rattle.vx_tally.proofs.TallyLaws.{chosen-first, chosen-second}
use Rattle.vx_tally.proofs.tally.Tally.chosen.Goals as goal

pub returns-clause-in_first : goal.returns-clause-in_first
returns-clause-in_first g c =
    let chosen = rw (c.nodes-3.ensures, c.nodes-4.ensures, c.root.ensures, c.root-2.ensures) at c.in_ok-edge.ensures.chosen in
    IfOk-weaker c.of.result _ _ (λ r h. chosen-first (g.met.S.Space.lawful c.args.space.now) c.args.first.now.nodes c.args.second.now.nodes _ _ c.in_ok-edge.edge c.unwrap_or.result r chosen c.unwrap_or.ensures (rw c.nodes-5.ensures at h)) c.of.ensures
