use Rattle.std.proofs.Common.{◌≡◌, drop}
use Rattle.vx_link.specs.Faults.{no_option}
use Rattle.vx_linker.proofs.judging.judge_options.Given as goal

abbrev pub invariant-loop-option : goal.invariant-loop-option
invariant-loop-option l =
    no_option l.files.classes.items l.options ≡ no_option l.files.classes.items (drop l.option-index l.options)
