use Rattle.vx_space.proofs.Spaces.{Extends-trans}
use Rattle.vx_group.proofs.GroupLaws.{IsGroup-attempts, IsGroup-path_known}
use Rattle.vx_turns.proofs.Spending.{IsSpent-made}
use Rattle.vx_turns.proofs.turns.spend.Goals as goal

pub restrict-requires-clause-valid : goal.restrict-requires-clause-valid
restrict-requires-clause-valid g c = rw c.attempts.ensures (IsGroup-attempts _ c.spend.new.self c.in_ok-spend.ensures.valid)

pub restrict-requires-clause-known : goal.restrict-requires-clause-known
restrict-requires-clause-known g c = rw c.path-path.ensures (IsGroup-path_known _ c.spend.new.self c.in_ok-spend.ensures.valid)

pub returns-clause-extends : goal.returns-clause-extends
returns-clause-extends g c = Extends-trans c.in_ok-spend.ensures.extends c.in_ok-attempts.ensures.extends

pub returns-clause-spent : goal.returns-clause-spent
returns-clause-spent g c =
    let copy = rw (c.attempts.ensures, c.path-path.ensures) at c.in_ok-attempts.ensures.ok in
    IsSpent-made (g.met.S.Space.lawful c.restrict.new.space) c.in_ok-spend.ensures.extends c.in_ok-attempts.ensures.extends c.args.group c.spend.new.self c.in_ok-attempts.attempts (IsGroup-path_known _ c.args.group c.requires.group) c.in_ok-spend.ensures.valid c.in_ok-spend.ensures.same c.in_ok-spend.ensures.path c.in_ok-spend.ensures.attempts copy
