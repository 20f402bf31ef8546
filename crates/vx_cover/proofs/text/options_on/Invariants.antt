use Rattle.std.proofs.Common.{◌≡◌}
use Rattle.vx_cover.specs.Text.{options_on}
use Rattle.vx_cover.proofs.text.options_on.Given as goal

abbrev pub invariant-loop-option : goal.invariant-loop-option
invariant-loop-option l = l.found.items ≡ options_on l.option l.c
