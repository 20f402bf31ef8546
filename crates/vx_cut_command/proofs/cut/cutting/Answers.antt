use Rattle.std.proofs.Common.{option_map}
use Rattle.std.proofs.lemmas.Result.{err_from_is_err_and}
use Rattle.vx_plans.proofs.Plans.{keeps_then, stops_behind}
use Rattle.vx_cut_command.specs.Cut.{choose, cut_by, cut_plan, cut_source, read_like}
use Rattle.vx_cut_command.specs.Words.{choice_of}
use Rattle.vx_cut_command.proofs.Sources.{cut_err, cut_ok}
use Rattle.vx_cut_command.proofs.cut.cutting.Goals as goal

pub returns-in_err-source-clause-err : goal.returns-in_err-source-clause-err
returns-in_err-source-clause-err g c =
    let p = err_from_is_err_and c.from_residual.result c.from_residual.ensures.1 in
    let w = c.args.words in
    rw (p.1, p.2) (c.in_err-source.ensures.err (cut_source w.model.now (choice_of w.chosen) (option_map (λ r. r.now) w.report)))

pub returns-in_err-report-clause-err : goal.returns-in_err-report-clause-err
returns-in_err-report-clause-err g c =
    let p = err_from_is_err_and c.from_residual-in_err-report.result c.from_residual-in_err-report.ensures.1 in
    let w = c.args.words in
    let model = c.in_ok-source.source.modeled.model in
    let next = choose (choice_of w.chosen) model (cut_by w.model.now c.in_ok-source.source.text.items model) in
    let report = option_map (λ r. r.now) w.report in
    rw (p.1, p.2) (stops_behind (g.F.Files.seen c.args.files.now) (g.F.Files.seen c.read_source.new.files) (g.F.Files.seen c.read_like.new.files) (cut_plan w.model.now (choice_of w.chosen) report) (read_like report model next) _
    c.in_ok-source.ensures.keeps (c.in_ok-source.ensures.ok (cut_source w.model.now (choice_of w.chosen) report)) (c.in_err-report.ensures.err next))

pub returns-clause-ok : goal.returns-clause-ok
returns-clause-ok g c =
    let w = c.args.words in
    cut_ok (g.F.Files.seen c.args.files.now) (g.F.Files.seen c.read_source.new.files) (g.F.Files.seen c.read_like.new.files) w.model.now (choice_of w.chosen) (option_map (λ r. r.now) w.report) c.in_ok-source.source.text.items c.in_ok-source.source.modeled.model c.cut_source.result
    c.in_ok-source.ensures.keeps c.in_ok-source.ensures.ok c.in_ok-report.ensures.ok c.cut_source.ensures

pub returns-clause-err : goal.returns-clause-err
returns-clause-err g c =
    let w = c.args.words in
    cut_err (g.F.Files.seen c.args.files.now) (g.F.Files.seen c.read_source.new.files) (g.F.Files.seen c.read_like.new.files) w.model.now (choice_of w.chosen) (option_map (λ r. r.now) w.report) c.in_ok-source.source.text.items c.in_ok-source.source.modeled.model c.cut_source.result
    c.in_ok-source.ensures.keeps c.in_ok-report.ensures.keeps c.in_ok-source.ensures.ok c.in_ok-report.ensures.ok c.cut_source.ensures

pub returns-clause-keeps : goal.returns-clause-keeps
returns-clause-keeps g c = keeps_then c.in_ok-source.ensures.keeps c.in_ok-report.ensures.keeps
