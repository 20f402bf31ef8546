-- Programs that class files link to keep to the bounds of class files.
use Rattle.std.specs.Prelude.{◌≡◌, ◌≤◌, ℕ, true, List, length, All, Ok}
use Rattle.vx_class.specs.File.{Holds}
use Rattle.vx_class.specs.declared.class_file.ClassFile.{ClassFile}
use Rattle.vx_families.specs.Bounds.{IsBounded}
use Rattle.vx_heap.specs.Heap.{has_options}
use Rattle.vx_link.specs.Linked.{linked_program}
use Rattle.vx_link.specs.declared.program.Program.{Program}
use Rattle.vx_model.specs.declared.model.OptionField.{OptionField}

-- the program of at most 1,024 classes, each one that a reading can give, is bounded, and its options are those of the model
abbrev pub LinkedAreBounded : Type 0
LinkedAreBounded =
    (classes : List ClassFile) (options : List OptionField) (main : List ℕ) (p : Program)
    → length classes ≤ 1024 → All Holds classes → linked_program classes options main ≡ Ok p
    → IsBounded p × (has_options (length options) p.fields ≡ true)
