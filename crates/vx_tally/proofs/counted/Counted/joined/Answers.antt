use Rattle.std.proofs.Common.{sym, ◌∙◌}
use Rattle.std.proofs.lemmas.Result.{IfOk-weaker}
use Rattle.vx_tally.proofs.CountedLaws.{IsJoinedTally-same, IsJoinedTally-chosen}
use Rattle.vx_tally.proofs.counted.Counted.joined.Goals as goal

pub returns-then-is_same : goal.returns-then-is_same
returns-then-is_same g c = IfOk-weaker c.same.result _ _ (λ r h. IsJoinedTally-same _ c.args.self.now c.args.other.now r c.requires.first (sym c.tally-one.ensures ∙ c.is_same.ensures c.if-is_same.true ∙ c.tally-two.ensures) (h ∙ c.tally-one.ensures)) c.same.ensures

pub returns : goal.returns
returns g c = IsJoinedTally-chosen _ c.args.self.now c.args.other.now c.in_ok-tally.tally c.requires.first c.requires.second c.in_ok-tally.ensures.valid (rw (c.scope.ensures, c.tally-one.ensures) at c.in_ok-tally.ensures.in_first) (rw (c.scope.ensures, c.scope-2.ensures, c.tally-two.ensures) at c.in_ok-tally.ensures.in_second)
