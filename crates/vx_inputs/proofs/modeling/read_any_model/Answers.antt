use Rattle.std.proofs.lemmas.Result.{err_from_is_err_and}
use Rattle.vx_plans.specs.Job.{model_of}
use Rattle.vx_plans.specs.Plan.{attempt}
use Rattle.vx_inputs.proofs.Inputs.{any_model_err, any_model_ok}
use Rattle.vx_inputs.proofs.modeling.read_any_model.Goals as goal

pub returns-in_err-text-clause-err : goal.returns-in_err-text-clause-err
returns-in_err-text-clause-err g c =
    let p = err_from_is_err_and c.from_residual.result c.from_residual.ensures.1 in
    rw (p.1, p.2) (λ next. c.in_err-text.ensures.err (λ text. attempt (model_of c.args.path.now text) next))

pub returns-clause-ok : goal.returns-clause-ok
returns-clause-ok g c =
    any_model_ok (g.F.Files.seen c.args.files.now).held c.args.path.now c.in_ok-text.text.items c.model_of.result c.in_ok-text.ensures.ok (rw c.as_slice.ensures.value at c.model_of.ensures.exact)

pub returns-clause-err : goal.returns-clause-err
returns-clause-err g c =
    any_model_err (g.F.Files.seen c.args.files.now) (g.F.Files.seen c.read_file.new.files) c.args.path.now c.in_ok-text.text.items c.model_of.result c.in_ok-text.ensures.keeps c.in_ok-text.ensures.ok
    (rw c.as_slice.ensures.value at c.model_of.ensures.exact)
