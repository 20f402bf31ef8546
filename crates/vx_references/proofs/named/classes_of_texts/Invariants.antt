use Rattle.std.proofs.Common.{◌≡◌, Some, map, take}
use Rattle.vx_references.specs.Named.{class_of_text}
use Rattle.vx_references.proofs.named.classes_of_texts.Given as goal

abbrev pub invariant-loop-entry : goal.invariant-loop-entry
invariant-loop-entry l = l.row.items ≡ map (λ e. class_of_text l.program (Some e)) (take l.entry-index l.entry-items)
