use Rattle.std.proofs.Common.{◌∙◌}
use Rattle.vx_linker.proofs.Lookups.{place_numbered}
use Rattle.vx_linker.proofs.files.Files.place_of.Goals as goal

pub returns : goal.returns
returns c = c.place_of.ensures.place ∙ place_numbered c.args.self.now.classes.items c.args.self.now.core.items c.args.self.now.numbers.folder c.args.self.now.numbers.core c.args.name.now c.args.self.now.folder_named c.args.self.now.core_named
