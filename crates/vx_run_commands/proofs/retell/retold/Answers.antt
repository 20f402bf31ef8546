use Rattle.std.proofs.lemmas.Result.{err_from_is_err_and}
use Rattle.vx_run_commands.specs.Retell.{retell_classes, retell_plan}
use Rattle.vx_inputs.specs.Folder.{read_folder}
use Rattle.vx_inputs.specs.Traced.{traced_of}
use Rattle.vx_plans.proofs.Plans.{stops_behind}
use Rattle.vx_run_commands.proofs.RetoldRuns.{retold_err, retold_ok}
use Rattle.vx_run_commands.proofs.retell.retold.Goals as goal

pub returns-in_err-chosen-clause-err : goal.returns-in_err-chosen-clause-err
returns-in_err-chosen-clause-err g c =
    let p = err_from_is_err_and c.from_residual.result c.from_residual.ensures.1 in
    let w = c.args.words in
    rw (p.1, p.2) (c.in_err-chosen.ensures.err (λ model d. read_folder traced_of w.folder.now (retell_classes w.retelling w.main.now w.limit model d)))

pub returns-in_err-traced-clause-err : goal.returns-in_err-traced-clause-err
returns-in_err-traced-clause-err g c =
    let p = err_from_is_err_and c.from_residual-in_err-traced.result c.from_residual-in_err-traced.ensures.1 in
    let w = c.args.words in
    let chosen = c.in_ok-chosen.chosen in
    rw (p.1, p.2) (stops_behind (g.F.Files.seen c.args.files.now) (g.F.Files.seen c.read_choice.new.files) (g.F.Files.seen c.read_folder.new.files) (retell_plan w.retelling w.folder.now w.model.now w.main.now w.limit w.configuration.now)
    (read_folder traced_of w.folder.now (retell_classes w.retelling w.main.now w.limit chosen.model chosen.values.items)) _
    c.in_ok-chosen.ensures.keeps (c.in_ok-chosen.ensures.ok (λ model d. read_folder traced_of w.folder.now (retell_classes w.retelling w.main.now w.limit model d)))
    (c.in_err-traced.ensures.err (retell_classes w.retelling w.main.now w.limit chosen.model chosen.values.items)))

pub returns-clause-ok : goal.returns-clause-ok
returns-clause-ok g c =
    let w = c.args.words in
    retold_ok (g.F.Files.seen c.args.files.now) (g.F.Files.seen c.read_choice.new.files) (g.F.Files.seen c.read_folder.new.files) w.retelling w.folder.now w.model.now w.main.now w.limit w.configuration.now c.in_ok-chosen.chosen.model c.in_ok-chosen.chosen.values.items
    c.in_ok-traced.traced.items c.retold_of.result c.in_ok-chosen.ensures.keeps c.in_ok-chosen.ensures.ok c.in_ok-traced.ensures.ok c.retold_of.ensures

pub returns-clause-err : goal.returns-clause-err
returns-clause-err g c =
    let w = c.args.words in
    retold_err (g.F.Files.seen c.args.files.now) (g.F.Files.seen c.read_choice.new.files) (g.F.Files.seen c.read_folder.new.files) w.retelling w.folder.now w.model.now w.main.now w.limit w.configuration.now c.in_ok-chosen.chosen.model c.in_ok-chosen.chosen.values.items
    c.in_ok-traced.traced.items c.retold_of.result c.in_ok-chosen.ensures.keeps c.in_ok-traced.ensures.keeps c.in_ok-chosen.ensures.ok c.in_ok-traced.ensures.ok c.retold_of.ensures
