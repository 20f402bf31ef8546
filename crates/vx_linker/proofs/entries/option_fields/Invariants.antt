use Rattle.std.proofs.Common.{◌≡◌, map}
use Rattle.std.specs.List.{range_with_len}
use Rattle.vx_link.specs.Linked.{option_field}
use Rattle.vx_linker.proofs.entries.option_fields.Given as goal

abbrev pub invariant-loop-option : goal.invariant-loop-option
invariant-loop-option l = l.options.items ≡ map (option_field l.fields) (range_with_len 0 l.option)
