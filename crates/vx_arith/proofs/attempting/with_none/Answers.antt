use Rattle.std.proofs.Common.{ap}
use Rattle.std.proofs.lemmas.Result.{IfOk-weaker}
use Rattle.vx_arith.specs.Family.{is_goto}
use Rattle.vx_arith.proofs.AttemptLaws.{none_other, refuse-gives}
use Rattle.vx_arith.proofs.attempting.with_none.Goals as goal

pub goto-requires-clause-goto : goal.goto-requires-clause-goto
goto-requires-clause-goto g c = ap is_goto c.in-Goto.is

pub returns-in_ok-went-in-Goto : goal.returns-in_ok-went-in-Goto
returns-in_ok-went-in-Goto g c = c.in_ok-went-in-Goto.ensures

pub returns-in_ok-what-in-Refuse : goal.returns-in_ok-what-in-Refuse
returns-in_ok-what-in-Refuse g c =
    IfOk-weaker c.unsupported.result _ _ (λ r' h'. refuse-gives c.args.site.now c.args.operation _ c.in_ok-what-in-Refuse.what _ c.args.group _ c.in-Refuse.is c.in_ok-what-in-Refuse.ensures (h' _))
    c.unsupported.ensures

pub unreachable-requires : goal.unreachable-requires
unreachable-requires g c = none_other c.args.operation c.requires.none c.in_default.not-Refuse c.in_default.not-Goto
