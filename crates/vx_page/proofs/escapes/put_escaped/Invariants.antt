use Rattle.std.proofs.Common.{◌≡◌, ◌++◌, take}
use Rattle.vx_page.specs.Escapes.{escaped}
use Rattle.vx_page.proofs.escapes.put_escaped.Given as goal

abbrev pub invariant-loop-b : goal.invariant-loop-b
invariant-loop-b l = l.out.items ≡ l.initial.out.items ++ escaped (take l.b-index l.text)
