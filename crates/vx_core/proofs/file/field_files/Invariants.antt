use Rattle.std.proofs.Common.{[], fold, take, ◌≡◌}
use Rattle.vx_core.specs.Rows.{with_field_file}
use Rattle.vx_core.proofs.file.field_files.Given as goal

abbrev pub invariant-loop-field : goal.invariant-loop-field
invariant-loop-field l = l.files.items ≡ fold (with_field_file l.start) [] (take l.field-index l.fields)
