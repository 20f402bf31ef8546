use Rattle.vx_link.specs.CoreFiles.{core_files, native_numbers}
use Rattle.vx_named_classes.proofs.NamedCore.{named_core}
use Rattle.vx_named_classes.proofs.NamedPrograms.{program_named}
use Rattle.vx_named_classes.proofs.linked_are_named.Goals as goal

pub returns : goal.returns
returns c = program_named core_files native_numbers named_core
