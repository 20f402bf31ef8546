use Rattle.std.proofs.lemmas.Result.{IfOk-weaker}
use Rattle.vx_tally.proofs.TallyLaws.{constant-number, constant-valid}
use Rattle.vx_tally.proofs.tally.Tally.constant.Goals as goal

pub returns-clause-number : goal.returns-clause-number
returns-clause-number c = IfOk-weaker c.of.result _ _ (λ r h. constant-number r c.args.number h) c.of.ensures

pub returns-clause-valid : goal.returns-clause-valid
returns-clause-valid c = λ options. IfOk-weaker c.of.result _ _ (λ r h. constant-valid options r c.args.number h) c.of.ensures
