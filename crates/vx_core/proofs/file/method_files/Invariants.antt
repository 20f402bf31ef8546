use Rattle.std.proofs.Common.{[], fold, take, ◌≡◌}
use Rattle.vx_core.specs.Rows.{with_method_file}
use Rattle.vx_core.proofs.file.method_files.Given as goal

abbrev pub invariant-loop-method : goal.invariant-loop-method
invariant-loop-method l = l.files.items ≡ fold (with_method_file l.start l.references) [] (take l.method-index l.methods)
