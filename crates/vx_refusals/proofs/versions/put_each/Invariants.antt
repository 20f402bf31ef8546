use Rattle.std.proofs.Common.{take, ◌++◌, ◌≡◌}
use Rattle.vx_refusals.specs.Refusals.{versions_of}
use Rattle.vx_refusals.proofs.versions.put_each.Given as goal

abbrev pub invariant-loop-version : goal.invariant-loop-version
invariant-loop-version l = l.out.items ≡ l.initial.out.items ++ versions_of l.classes (take l.version-index l.versions)
