use Rattle.std.proofs.lemmas.Result.{IfOk-weaker}
use Rattle.vx_agree.proofs.Agreeing.{IsAgreement-of}
use Rattle.vx_bdd_tools.proofs.ListedSets.{AreSetsOf-extends}
use Rattle.vx_agree.proofs.reports.agreement_of.Goals as goal

pub same_output-requires-clause-one : goal.same_output-requires-clause-one
same_output-requires-clause-one g c = AreSetsOf-extends c.in_ok-end.ensures.extends _ _ c.requires.one

pub same_output-requires-clause-sets : goal.same_output-requires-clause-sets
same_output-requires-clause-sets g c = AreSetsOf-extends c.in_ok-end.ensures.extends _ _ c.requires.sets

pub returns-clause-agreement : goal.returns-clause-agreement
returns-clause-agreement g c = IfOk-weaker c.and.result _ _ (λ r h. IsAgreement-of c.in_ok-output.ensures.extends c.args.one.now c.args.other.now c.in_ok-end.end c.in_ok-output.output r c.in_ok-end.ensures.same c.in_ok-output.ensures.same h) c.and.ensures.ok
