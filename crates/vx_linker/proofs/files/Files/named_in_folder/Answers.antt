use Rattle.std.proofs.Common.{◌∙◌}
use Rattle.vx_linker.proofs.Lookups.{file_there, file_absent}
use Rattle.vx_linker.proofs.files.Files.named_in_folder.Goals as goal

pub returns-in-Some : goal.returns-in-Some
returns-in-Some c =
    c.in_folder.ensures ∙ file_there c.args.self.now.classes.items c.args.self.now.numbers.folder c.args.name.now c.in-Some.place c.args.self.now.folder_named c.in-Some.ensures.place

pub returns-in-None : goal.returns-in-None
returns-in-None c = file_absent c.args.self.now.classes.items c.args.self.now.numbers.folder c.args.name.now c.args.self.now.folder_named c.in-None.ensures.place
