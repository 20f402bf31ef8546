use Rattle.std.proofs.lemmas.Result.{err_from_is_err_and}
use Rattle.vx_plans.specs.Job.{model_of}
use Rattle.vx_plans.specs.Plan.{If_allowed, attempt}
use Rattle.vx_cut_command.proofs.Sources.{source_forbids, source_goes, source_stops}
use Rattle.vx_cut_command.proofs.cut.read_source.Goals as goal

pub returns-in_err-text-clause-err : goal.returns-in_err-text-clause-err
returns-in_err-text-clause-err g c =
    let p = err_from_is_err_and c.from_residual.result c.from_residual.ensures.1 in
    rw (p.1, p.2) (λ next. c.in_err-text.ensures.err (λ text. attempt (model_of c.args.path.now text) (λ model. If_allowed model (next text model))))

pub returns-in_err-model-clause-err : goal.returns-in_err-model-clause-err
returns-in_err-model-clause-err g c =
    let p = err_from_is_err_and c.from_residual-in_err-model.result c.from_residual-in_err-model.ensures.1 in
    let bad = rw c.as_slice.ensures.value at c.in_err-model.ensures.exact in
    rw (p.1, p.2) (λ next. source_stops (g.F.Files.seen c.args.files.now) (g.F.Files.seen c.read_file.new.files) c.args.path.now c.in_ok-text.text.items next _ c.in_ok-text.ensures.keeps c.in_ok-text.ensures.ok bad)

pub returns-in_err-modeled-clause-err : goal.returns-in_err-modeled-clause-err
returns-in_err-modeled-clause-err g c =
    let p = err_from_is_err_and c.from_residual-in_err-modeled.result c.from_residual-in_err-modeled.ensures.1 in
    let taken = rw c.as_slice.ensures.value at c.in_ok-model.ensures.exact in
    rw (p.1, p.2) (λ next. source_forbids (g.F.Files.seen c.args.files.now) (g.F.Files.seen c.read_file.new.files) c.args.path.now c.in_ok-text.text.items c.in_ok-model.model next _ c.in_ok-text.ensures.keeps c.in_ok-text.ensures.ok taken c.in_err-modeled.ensures)

pub returns-clause-ok : goal.returns-clause-ok
returns-clause-ok g c =
    let taken = rw (c.as_slice.ensures.value) at c.in_ok-model.ensures.exact in
    let allows = rw c.in_ok-modeled.ensures.0 at c.in_ok-modeled.ensures.1.allows in
    λ next. rw c.in_ok-modeled.ensures.0 (source_goes (g.F.Files.seen c.args.files.now).held c.args.path.now c.in_ok-text.text.items c.in_ok-model.model next c.in_ok-text.ensures.ok taken allows)

pub returns-clause-spelled : goal.returns-clause-spelled
returns-clause-spelled g c = rw c.in_ok-modeled.ensures.0 (rw c.as_slice.ensures.value at c.in_ok-model.ensures.exact)

pub returns-clause-modeled : goal.returns-clause-modeled
returns-clause-modeled g c = c.in_ok-modeled.ensures.1
