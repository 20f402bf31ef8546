use Rattle.std.proofs.Common.{◌∙◌}
use Rattle.vx_linker.proofs.Lookups.{place_first, place_later}
use Rattle.vx_linker.proofs.class_numbers.ClassNumbers.place_of.Goals as goal

pub returns-in-Some-clause-place : goal.returns-in-Some-clause-place
returns-in-Some-clause-place c = place_first c.args.self.now.folder c.args.self.now.core c.args.name.now c.in-Some.place c.in-Some.ensures.place

pub returns-in-None-clause-place : goal.returns-in-None-clause-place
returns-in-None-clause-place c = c.place_in_core.ensures.place ∙ place_later c.args.self.now.folder c.args.self.now.core c.args.name.now c.in-None.ensures.place
