use Rattle.std.proofs.Common.{◌≡◌, Some, map, take}
use Rattle.vx_references.specs.Named.{class_by_texts}
use Rattle.vx_references.proofs.named.row_of.Given as goal

abbrev pub invariant-loop-entry : goal.invariant-loop-entry
invariant-loop-entry l = l.row.items ≡ map (λ e. class_by_texts l.texts.items l.nothing (Some e)) (take l.entry-index l.entry-items)
