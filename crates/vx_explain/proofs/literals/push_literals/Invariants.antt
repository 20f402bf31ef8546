use Rattle.std.proofs.Common.{◌≡◌, ◌++◌, ◌-◌}
use Rattle.vx_explain.specs.Literals.{literals_of}
use Rattle.vx_explain.proofs.literals.push_literals.Given as goal

abbrev pub invariant-loop-option : goal.invariant-loop-option
invariant-loop-option l = l.all.items ++ literals_of l.on (l.options - l.option) l.option ≡ l.initial.all.items ++ literals_of l.on l.options 0
