use Rattle.std.proofs.Common.{◌≤◌, arith, length}
use Rattle.vx_bdd.proofs.StampLaws.{AreUpTo-same, padded, resized}
use Rattle.vx_bdd.proofs.marks.Marks.reach.Goals as goal

pub returns-clause-stamps : goal.returns-clause-stamps
returns-clause-stamps c = λ x.
    let enough : length c.args.self.now.stamps.items ≤ c.saturating_add.result = omega (arith, c.if-id-len.false, c.len.ensures, c.saturating_add.ensures) in
    rw c.in_ok-resize.ensures.items (padded c.args.self.now.stamps.items c.saturating_add.result _ x enough)

pub invariant_of-self : goal.invariant_of-self
invariant_of-self c =
    let enough : length c.args.self.now.stamps.items ≤ c.saturating_add.result = omega (arith, c.if-id-len.false, c.len.ensures, c.saturating_add.ensures) in
    record { past = AreUpTo-same c.args.self.now.stamps.items _ (resized c.args.self.now.stamps.items _ c.saturating_add.result _ _ enough c.resize.ensures.items) c.args.self.now.past }
