use Rattle.std.proofs.lemmas.Result.{err_from_is_err_and}
use Rattle.vx_class.specs.Class.{class_of}
use Rattle.vx_inputs.specs.Folder.{read_folder}
use Rattle.vx_run_commands.specs.Verify.{judge_classes, verify_plan}
use Rattle.vx_run_commands.proofs.Judging.{verify_err, verify_ok}
use Rattle.vx_plans.proofs.Plans.{stops_behind}
use Rattle.vx_run_commands.proofs.verify.verification.Goals as goal

pub returns-in_err-model-clause-err : goal.returns-in_err-model-clause-err
returns-in_err-model-clause-err g c =
    let p = err_from_is_err_and c.from_residual.result c.from_residual.ensures.1 in
    let w = c.args.words in
    rw (p.1, p.2) (c.in_err-model.ensures.err (λ model. read_folder class_of w.folder.now (judge_classes w.main.now model)))

pub returns-in_err-classes-clause-err : goal.returns-in_err-classes-clause-err
returns-in_err-classes-clause-err g c =
    let p = err_from_is_err_and c.from_residual-in_err-classes.result c.from_residual-in_err-classes.ensures.1 in
    let w = c.args.words in
    rw (p.1, p.2) (stops_behind (g.F.Files.seen c.args.files.now) (g.F.Files.seen c.read_any_model.new.files) (g.F.Files.seen c.read_folder.new.files) (verify_plan w.folder.now w.model.now w.main.now) (read_folder class_of w.folder.now (judge_classes w.main.now c.in_ok-model.model)) _
    c.in_ok-model.ensures.keeps (c.in_ok-model.ensures.ok (λ model. read_folder class_of w.folder.now (judge_classes w.main.now model))) (c.in_err-classes.ensures.err (judge_classes w.main.now c.in_ok-model.model)))

pub returns-clause-ok : goal.returns-clause-ok
returns-clause-ok g c =
    let w = c.args.words in
    verify_ok (g.F.Files.seen c.args.files.now) (g.F.Files.seen c.read_any_model.new.files) (g.F.Files.seen c.read_folder.new.files) w.folder.now w.model.now w.main.now c.in_ok-model.model
    c.in_ok-classes.classes.items c.verdict_of.result c.in_ok-model.ensures.keeps c.in_ok-model.ensures.ok c.in_ok-classes.ensures.ok c.verdict_of.ensures

pub returns-clause-err : goal.returns-clause-err
returns-clause-err g c =
    let w = c.args.words in
    verify_err (g.F.Files.seen c.args.files.now) (g.F.Files.seen c.read_any_model.new.files) (g.F.Files.seen c.read_folder.new.files) w.folder.now w.model.now w.main.now c.in_ok-model.model
    c.in_ok-classes.classes.items c.verdict_of.result c.in_ok-model.ensures.keeps c.in_ok-classes.ensures.keeps c.in_ok-model.ensures.ok c.in_ok-classes.ensures.ok c.verdict_of.ensures
