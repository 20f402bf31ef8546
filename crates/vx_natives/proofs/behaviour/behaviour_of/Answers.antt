use Rattle.std.proofs.Common.{ap, length, sym}
use Rattle.std.specs.Prelude.{◌==◌}
use Rattle.vx_natives.proofs.Numbers.{none_above, unnumbered, unread}
use Rattle.vx_natives.proofs.behaviour.behaviour_of.Goals as goal

pub returns-then-number-gt92-clause-row : goal.returns-then-number-gt92-clause-row
returns-then-number-gt92-clause-row c = none_above c.args.number c.if-number-gt92.true

pub returns-then-number-gt92-clause-known : goal.returns-then-number-gt92-clause-known
returns-then-number-gt92-clause-known c = unnumbered c.args.number c.if-number-gt92.true

pub returns-then-number-gt92-clause-count : goal.returns-then-number-gt92-clause-count
returns-then-number-gt92-clause-count c = ap (λ reads. length reads == 0) (sym (unread c.args.number c.if-number-gt92.true))
