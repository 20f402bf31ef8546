use Rattle.std.proofs.Common.{subst, sym, ◌∙◌}
use Rattle.std.proofs.lemmas.Result.{IfOk-weaker}
use Rattle.vx_types.proofs.CommonLaws.{common_of_apart, common_of_fitted, common_of_fitting}
use Rattle.vx_types.specs.Common.{IsCommon}
use Rattle.vx_types.specs.declared.types.VerType.{VerType}
use Rattle.vx_types.proofs.merging.common.Goals as goal

pub returns-then-fits : goal.returns-then-fits
returns-then-fits c =
    IfOk-weaker c.type_copy.result _ _
    (λ t h. subst (λ (x : VerType). IsCommon c.args.program.now c.args.one.now c.args.other.now x) (sym h)
    (common_of_fitting c.args.program.now c.requires.ranked c.args.one.now c.args.other.now (sym c.fits.ensures ∙ c.if-fits.true)))
    c.type_copy.ensures

pub returns-then-fits-2 : goal.returns-then-fits-2
returns-then-fits-2 c =
    IfOk-weaker c.type_copy-then-fits-2.result _ _
    (λ t h. subst (λ (x : VerType). IsCommon c.args.program.now c.args.one.now c.args.other.now x) (sym h)
    (common_of_fitted c.args.program.now c.requires.ranked c.args.one.now c.args.other.now (sym c.fits-2.ensures ∙ c.if-fits-2.true)))
    c.type_copy-then-fits-2.ensures

pub returns : goal.returns
returns c =
    subst (λ (x : VerType). IsCommon c.args.program.now c.args.one.now c.args.other.now x) (sym c.common_apart.ensures)
    (common_of_apart c.args.program.now c.requires.ranked c.args.one.now c.args.other.now (sym c.fits.ensures ∙ c.if-fits.false) (sym c.fits-2.ensures ∙ c.if-fits-2.false))
