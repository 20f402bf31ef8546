use Rattle.std.proofs.lemmas.Result.{err_from_is_err_and}
use Rattle.vx_class.specs.Class.{class_of}
use Rattle.vx_inputs.specs.Folder.{read_folder}
use Rattle.vx_run_commands.specs.Run.{run_classes, run_plan}
use Rattle.vx_plans.proofs.Plans.{stops_behind}
use Rattle.vx_run_commands.proofs.Ran.{untold}
use Rattle.vx_run_commands.proofs.Running.{run_ok, run_err}
use Rattle.vx_run_commands.proofs.run.run_text.Goals as goal

pub returns-in_err-modeled-clause-err : goal.returns-in_err-modeled-clause-err
returns-in_err-modeled-clause-err g c =
    let p = err_from_is_err_and c.from_residual.result c.from_residual.ensures.1 in
    let w = c.args.words in
    rw (p.1, p.2) (c.in_err-modeled.ensures.err (λ model. read_folder class_of w.folder.now (run_classes w.main.now w.limit w.version model)))

pub returns-in_err-classes-clause-err : goal.returns-in_err-classes-clause-err
returns-in_err-classes-clause-err g c =
    let p = err_from_is_err_and c.from_residual-in_err-classes.result c.from_residual-in_err-classes.ensures.1 in
    let w = c.args.words in
    let run = run_classes w.main.now w.limit w.version in
    rw (p.1, p.2) (stops_behind (g.F.Files.seen c.args.files.now) (g.F.Files.seen c.read_model_file.new.files) (g.F.Files.seen c.read_folder.new.files) (run_plan w.folder.now w.model.now w.main.now w.limit w.version) (read_folder class_of w.folder.now (run c.in_ok-modeled.modeled.model)) _ c.in_ok-modeled.ensures.keeps
    (c.in_ok-modeled.ensures.ok (λ model. read_folder class_of w.folder.now (run model)))
    (c.in_err-classes.ensures.err (run c.in_ok-modeled.modeled.model)))

pub returns-clause-ok : goal.returns-clause-ok
returns-clause-ok g c =
    let w = c.args.words in
    run_ok (g.F.Files.seen c.args.files.now) (g.F.Files.seen c.read_model_file.new.files) (g.F.Files.seen c.read_folder.new.files) w.folder.now w.model.now w.main.now w.limit w.version c.in_ok-modeled.modeled.model c.in_ok-classes.classes.items
    c.report_of.result c.in_ok-modeled.ensures.keeps c.in_ok-modeled.ensures.ok c.in_ok-classes.ensures.ok c.report_of.ensures.text

pub returns-clause-err : goal.returns-clause-err
returns-clause-err g c =
    let w = c.args.words in
    run_err (g.F.Files.seen c.args.files.now) (g.F.Files.seen c.read_model_file.new.files) (g.F.Files.seen c.read_folder.new.files) w.folder.now w.model.now w.main.now w.limit w.version c.in_ok-modeled.modeled.model c.in_ok-classes.classes.items
    c.report_of.result c.in_ok-modeled.ensures.keeps c.in_ok-classes.ensures.keeps c.in_ok-modeled.ensures.ok c.in_ok-classes.ensures.ok c.report_of.ensures.text

pub returns-in_err-modeled-clause-told : goal.returns-in_err-modeled-clause-told
returns-in_err-modeled-clause-told g c = untold c.args.words.watched (g.E.Sink.seen c.args.err.now)

pub returns-in_err-classes-clause-told : goal.returns-in_err-classes-clause-told
returns-in_err-classes-clause-told g c = untold c.args.words.watched (g.E.Sink.seen c.args.err.now)
