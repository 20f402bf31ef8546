use Rattle.std.proofs.lemmas.List.{length-map}
use Rattle.vx_link.specs.CoreFiles.{core_files, native_numbers}
use Rattle.vx_link.specs.CoreTable.{core_table}
use Rattle.vx_link.specs.Written.{class_file}
use Rattle.vx_program_bounds.proofs.Bounded.{bounded}
use Rattle.vx_program_bounds.proofs.NativeForms.{core_forms}
use Rattle.vx_program_bounds.proofs.ShortCore.{short_core}
use Rattle.vx_program_bounds.proofs.linked_are_bounded.Goals as goal

pub returns : goal.returns
returns c = bounded core_files native_numbers (length-map core_table class_file) short_core core_forms
