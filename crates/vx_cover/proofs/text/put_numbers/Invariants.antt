use Rattle.std.proofs.Common.{◌≡◌, ◌++◌, decimal, take}
use Rattle.vx_cover.specs.Text.{more}
use Rattle.vx_cover.proofs.text.put_numbers.Given as goal

abbrev pub invariant-loop-number : goal.invariant-loop-number
invariant-loop-number l = l.out.items ≡ l.initial.out.items ++ more decimal (take l.number-index l.rest)
