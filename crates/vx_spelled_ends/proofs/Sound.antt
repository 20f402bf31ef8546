-- Linked programs are sound.
use Rattle.std.proofs.Common.{List, Ok, ℕ, ◌≡◌}
use Rattle.std.specs.Prelude.{All}
use Rattle.vx_class.specs.File.{Holds}
use Rattle.vx_class.specs.declared.class_file.ClassFile.{ClassFile}
use Rattle.vx_jump_targets.proofs.PlacedCore.{placed_core}
use Rattle.vx_jump_targets.proofs.WellPlaced.{placed}
use Rattle.vx_link.specs.CoreFiles.{core_files, native_numbers}
use Rattle.vx_link.specs.Linked.{linked_program}
use Rattle.vx_link.specs.declared.program.Program.{Program}
use Rattle.vx_model.specs.declared.model.OptionField.{OptionField}
use Rattle.vx_named_classes.proofs.NamedCore.{named_core}
use Rattle.vx_named_classes.proofs.NamedPrograms.{program_named}
use Rattle.vx_spelled_ends.specs.Law.{IsSound}

pub linked_sound : (classes : List ClassFile) (options : List OptionField) (main : List ℕ) (p : Program) → All Holds classes → linked_program classes options main ≡ Ok p → IsSound p
linked_sound classes options main p holds is = record {
  named = program_named core_files native_numbers named_core classes options main p holds is;
  placed = placed core_files native_numbers placed_core classes options main p holds is;
}
