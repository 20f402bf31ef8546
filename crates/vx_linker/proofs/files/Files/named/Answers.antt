use Rattle.std.proofs.Common.{◌∙◌, ◌++◌, refl}
use Rattle.vx_link.specs.Tables.{names_of}
use Rattle.vx_linker.proofs.Lookups.{file_there, file_absent}
use Rattle.vx_linker.proofs.files.Files.named.Goals as goal

pub returns-in-Some : goal.returns-in-Some
returns-in-Some c =
    let all = c.args.self.now.classes.items ++ c.args.self.now.core.items in
    c.at.ensures ∙ file_there all (names_of all) c.args.name.now c.in-Some.place refl c.in-Some.ensures

pub returns-in-None : goal.returns-in-None
returns-in-None c =
    let all = c.args.self.now.classes.items ++ c.args.self.now.core.items in
    file_absent all (names_of all) c.args.name.now refl c.in-None.ensures
