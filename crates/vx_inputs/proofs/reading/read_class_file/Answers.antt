use Rattle.std.proofs.Common.{◌∙◌, ◌≡◌}
use Rattle.std.proofs.lemmas.Result.{err_from_is_err_and}
use Rattle.vx_plans.specs.Plan.{attempt}
use Rattle.vx_inputs.specs.Folder.{or_bad_class, place_of}
use Rattle.vx_inputs.proofs.Inputs.{class_ok, class_err}
use Rattle.vx_inputs.proofs.reading.read_class_file.Goals as goal

pub returns-in_err-bytes-clause-err : goal.returns-in_err-bytes-clause-err
returns-in_err-bytes-clause-err g c =
    let p = err_from_is_err_and c.from_residual-in_err-bytes.result c.from_residual-in_err-bytes.ensures.1 in
    let place : c.as_str.result.now ≡ place_of c.args.folder.now c.args.path.now = c.as_str.ensures.value ∙ c.in_ok-place.ensures in
    rw (p.1, p.2) (λ next. rw place at (c.in_err-bytes.ensures.err (λ bytes. attempt (or_bad_class c.args.path.now (g.T.FromClassFile.given bytes)) next)))

pub returns-clause-ok : goal.returns-clause-ok
returns-clause-ok g c =
    let place : c.as_str.result.now ≡ place_of c.args.folder.now c.args.path.now = c.as_str.ensures.value ∙ c.in_ok-place.ensures in
    class_ok g.T.FromClassFile.given _ c.args.folder.now c.args.path.now c.in_ok-bytes.bytes.items c.taken_from.result (λ next. rw place at (c.in_ok-bytes.ensures.ok next)) (rw c.as_slice.ensures.value at c.taken_from.ensures.exact)

pub returns-clause-err : goal.returns-clause-err
returns-clause-err g c =
    let place : c.as_str.result.now ≡ place_of c.args.folder.now c.args.path.now = c.as_str.ensures.value ∙ c.in_ok-place.ensures in
    class_err g.T.FromClassFile.given _ _ c.args.folder.now c.args.path.now c.in_ok-bytes.bytes.items c.taken_from.result c.in_ok-bytes.ensures.keeps (λ next. rw place at (c.in_ok-bytes.ensures.ok next)) (rw c.as_slice.ensures.value at c.taken_from.ensures.exact)
