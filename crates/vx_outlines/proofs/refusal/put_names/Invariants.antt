use Rattle.std.proofs.Common.{take, ◌++◌, ◌≡◌}
use Rattle.vx_outlines.specs.Refusals.{names_text}
use Rattle.vx_outlines.proofs.refusal.put_names.Given as goal

abbrev pub invariant-loop-name : goal.invariant-loop-name
invariant-loop-name l = l.out.items ≡ l.initial.out.items ++ names_text l.before (take l.name-index l.names)
