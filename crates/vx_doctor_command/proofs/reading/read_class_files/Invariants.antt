use Rattle.std.proofs.Common.{◌≡◌, List, [], drop, length, map, string_bytes, ℕ}
use Rattle.std.specs.Prelude.{All}
use Rattle.vx_class.specs.File.{Holds}
use Rattle.vx_inputs.specs.declared.taken.Traced.{Traced}
use Rattle.vx_plans.specs.KeepsFiles.{KeepsFiles}
use Rattle.vx_plans.specs.Plan.{Leads, Plan}
use Rattle.vx_doctor_command.specs.Doctor.{read_classes_told}
use Rattle.vx_doctor_command.proofs.reading.read_class_files.Given as goal

-- the class files so far lead to those that are left
abbrev pub invariant-loop-path : goal.invariant-loop-path
invariant-loop-path g l = let seen = g.F.Files.seen in record {
  leads : (front : List ℕ) (next : List Traced → Plan) → Leads (seen l.fn.files).held (read_classes_told front l.folder next [] (map string_bytes l.paths)) (read_classes_told front l.folder next l.all.items (map string_bytes (drop l.path-index l.paths)));
  keeps : KeepsFiles (seen l.fn.files) (seen l.files);
  holds : All (λ (taken : Traced). Holds taken.class) l.all.items;
  count : length l.all.items ≡ l.path-index;
}
