use Rattle.std.proofs.Common.{◌≡◌, All, List, [], length, map, string_bytes, drop}
use Rattle.vx_class.specs.File.{Holds}
use Rattle.vx_plans.specs.KeepsFiles.{KeepsFiles}
use Rattle.vx_plans.specs.Plan.{Plan, Leads}
use Rattle.vx_inputs.specs.Folder.{read_classes}
use Rattle.vx_inputs.proofs.reading.read_class_files.Given as goal

-- the class files so far lead to those that are left
abbrev pub invariant-loop-path : goal.invariant-loop-path
invariant-loop-path g l = let seen = g.F.Files.seen in let given = g.T.FromClassFile.given in record {
  leads : (next : List _ → Plan) → Leads (seen l.fn.files).held (read_classes given l.folder next [] (map string_bytes l.paths)) (read_classes given l.folder next l.all.items (map string_bytes (drop l.path-index l.paths)));
  keeps : KeepsFiles (seen l.fn.files) (seen l.files);
  holds : All (λ taken. Holds (g.T.FromClassFile.class taken)) l.all.items;
  count : length l.all.items ≡ l.path-index;
}
