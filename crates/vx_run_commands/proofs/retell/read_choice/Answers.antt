use Rattle.std.proofs.lemmas.Result.{err_from_is_err_and}
use Rattle.vx_plans.specs.Plan.{attempt}
use Rattle.vx_run_commands.specs.Retell.{allowed_at}
use Rattle.vx_run_commands.proofs.RetoldRuns.{choice_err, choice_lawful, choice_ok}
use Rattle.vx_run_commands.proofs.retell.read_choice.Goals as goal

pub returns-in_err-model-clause-err : goal.returns-in_err-model-clause-err
returns-in_err-model-clause-err g c =
    let p = err_from_is_err_and c.from_residual.result c.from_residual.ensures.1 in
    rw (p.1, p.2) (λ next. c.in_err-model.ensures.err (λ model. attempt (allowed_at model c.args.word.now) (next model)))

pub returns-clause-ok : goal.returns-clause-ok
returns-clause-ok g c =
    choice_ok (g.F.Files.seen c.args.files.now) c.args.path.now c.args.word.now c.in_ok-model.model c.with_choice.result c.in_ok-model.ensures.ok c.with_choice.ensures

pub returns-clause-lawful : goal.returns-clause-lawful
returns-clause-lawful g c = choice_lawful c.in_ok-model.model c.args.word.now c.with_choice.result c.in_ok-model.ensures.lawful c.with_choice.ensures

pub returns-clause-err : goal.returns-clause-err
returns-clause-err g c =
    choice_err (g.F.Files.seen c.args.files.now) (g.F.Files.seen c.read_any_model.new.files) c.args.path.now c.args.word.now c.in_ok-model.model c.with_choice.result c.in_ok-model.ensures.keeps c.in_ok-model.ensures.ok c.with_choice.ensures
