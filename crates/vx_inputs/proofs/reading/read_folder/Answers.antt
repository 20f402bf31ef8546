use Rattle.std.proofs.Common.{[], length, map, string_bytes}
use Rattle.std.proofs.lemmas.Result.{err_from_is_err_and}
use Rattle.vx_inputs.specs.Folder.{read_classes}
use Rattle.vx_inputs.proofs.Inputs.{few_classes, folder_err, folder_ok}
use Rattle.vx_inputs.proofs.reading.read_folder.Goals as goal

pub returns-in_err-paths-clause-err : goal.returns-in_err-paths-clause-err
returns-in_err-paths-clause-err g c =
    let p = err_from_is_err_and c.from_residual.result c.from_residual.ensures.1 in
    rw (p.1, p.2) (λ next. c.in_err-paths.ensures.err (λ paths. read_classes g.T.FromClassFile.given c.args.folder.now next [] paths))

pub returns-clause-ok : goal.returns-clause-ok
returns-clause-ok g c =
    folder_ok g.T.FromClassFile.given (g.F.Files.seen c.args.files.now) (g.F.Files.seen c.list_class_files.new.files) c.args.folder.now (map string_bytes c.in_ok-paths.paths.items) c.read_class_files.result c.in_ok-paths.ensures.keeps c.in_ok-paths.ensures.ok
    (rw c.as_slice.ensures.value at c.read_class_files.ensures.ok)

pub returns-clause-few : goal.returns-clause-few
returns-clause-few g c =
    few_classes c.read_class_files.result (length c.in_ok-paths.paths.items) 1024 c.in_ok-paths.ensures.few (rw c.as_slice.ensures.value at c.read_class_files.ensures.count)

pub returns-clause-err : goal.returns-clause-err
returns-clause-err g c =
    folder_err g.T.FromClassFile.given (g.F.Files.seen c.args.files.now) (g.F.Files.seen c.list_class_files.new.files) (g.F.Files.seen c.read_class_files.new.files) c.args.folder.now (map string_bytes c.in_ok-paths.paths.items) c.read_class_files.result c.in_ok-paths.ensures.keeps c.in_ok-paths.ensures.ok
    (rw c.as_slice.ensures.value at c.read_class_files.ensures.err)
