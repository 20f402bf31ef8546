use Rattle.std.proofs.Common.{◌≡◌, ◌++◌, take}
use Rattle.vx_page.specs.Parts.{joined_slices}
use Rattle.vx_page.proofs.parts.put_parts.Given as goal

abbrev pub invariant-loop-part : goal.invariant-loop-part
invariant-loop-part l = l.out.items ≡ l.initial.out.items ++ joined_slices (take l.part-index l.parts)
