use Rattle.std.proofs.Common.{◌≡◌, ◌++◌, take}
use Rattle.vx_cover.specs.Text.{more, name_of}
use Rattle.vx_cover.proofs.text.put_names.Given as goal

abbrev pub invariant-loop-option : goal.invariant-loop-option
invariant-loop-option l = l.out.items ≡ l.initial.out.items ++ more (name_of l.names) (take l.option-index l.rest)
