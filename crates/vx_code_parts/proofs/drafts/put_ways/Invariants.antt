use Rattle.std.proofs.Common.{◌≡◌, ◌++◌, take}
use Rattle.std.specs.List.{flat_map}
use Rattle.vx_class.specs.Spelling.{u4}
use Rattle.vx_code_parts.specs.Drafts.{way}
use Rattle.vx_code_parts.proofs.drafts.put_ways.Given as goal

abbrev pub invariant-loop-target : goal.invariant-loop-target
invariant-loop-target l = l.out.items ≡ l.fn.out.items ++ flat_map (λ t. u4 (way l.places l.at t)) (take l.target-index l.targets)
