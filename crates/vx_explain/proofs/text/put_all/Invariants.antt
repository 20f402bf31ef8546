use Rattle.std.proofs.Common.{◌≡◌, ◌++◌, length}
use Rattle.vx_explain.specs.Text.{all_text}
use Rattle.vx_explain.proofs.text.put_all.Given as goal

abbrev pub invariant-loop-explained : goal.invariant-loop-explained
invariant-loop-explained l = l.out.items ++ all_text l.names l.told l.rest ≡ l.initial.out.items ++ all_text l.names l.told l.all

abbrev pub decreases-loop-explained : goal.decreases-loop-explained
decreases-loop-explained l = length l.rest
