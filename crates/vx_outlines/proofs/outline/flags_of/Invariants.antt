use Rattle.std.proofs.Common.{flat_map, take, ◌≡◌}
use Rattle.vx_outlines.specs.Outlines.{flag_of}
use Rattle.vx_outlines.proofs.outline.flags_of.Given as goal

abbrev pub invariant-loop-field : goal.invariant-loop-field
invariant-loop-field l = l.names.items ≡ flat_map (flag_of l.class) (take l.field-index l.class.fields)
