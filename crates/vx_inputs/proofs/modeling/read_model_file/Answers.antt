use Rattle.std.proofs.lemmas.Result.{err_from_is_err_and}
use Rattle.vx_plans.specs.Job.{model_of}
use Rattle.vx_plans.specs.Plan.{If_allowed, attempt}
use Rattle.vx_inputs.proofs.Inputs.{model_stops, modeled_goes, modeled_is, modeled_stops}
use Rattle.vx_inputs.proofs.modeling.read_model_file.Goals as goal

pub returns-in_err-text-clause-err : goal.returns-in_err-text-clause-err
returns-in_err-text-clause-err g c =
    let p = err_from_is_err_and c.from_residual.result c.from_residual.ensures.1 in
    rw (p.1, p.2) (λ next. c.in_err-text.ensures.err (λ text. attempt (model_of c.args.path.now text) (λ model. If_allowed model (next model))))

pub returns-in_err-model-clause-err : goal.returns-in_err-model-clause-err
returns-in_err-model-clause-err g c =
    let p = err_from_is_err_and c.from_residual-in_err-model.result c.from_residual-in_err-model.ensures.1 in
    let bad = rw c.as_slice.ensures.value at c.in_err-model.ensures.exact in
    rw (p.1, p.2) (λ next. model_stops (g.F.Files.seen c.args.files.now) (g.F.Files.seen c.read_file.new.files) c.args.path.now c.in_ok-text.text.items next _ c.in_ok-text.ensures.keeps c.in_ok-text.ensures.ok bad)

pub returns-clause-ok : goal.returns-clause-ok
returns-clause-ok g c =
    let taken = rw c.as_slice.ensures.value at c.in_ok-model.ensures.exact in
    modeled_goes (g.F.Files.seen c.args.files.now).held c.args.path.now c.in_ok-text.text.items c.in_ok-model.model _ _ c.allowing_model.result (λ found is. is.allows) c.in_ok-text.ensures.ok taken c.allowing_model.ensures

pub returns-clause-modeled : goal.returns-clause-modeled
returns-clause-modeled g c = modeled_is c.in_ok-model.model _ _ c.allowing_model.result c.allowing_model.ensures

pub returns-clause-err : goal.returns-clause-err
returns-clause-err g c =
    let taken = rw c.as_slice.ensures.value at c.in_ok-model.ensures.exact in
    modeled_stops (g.F.Files.seen c.args.files.now) (g.F.Files.seen c.read_file.new.files) c.args.path.now c.in_ok-text.text.items c.in_ok-model.model _ _ c.allowing_model.result c.in_ok-text.ensures.keeps c.in_ok-text.ensures.ok taken c.allowing_model.ensures
