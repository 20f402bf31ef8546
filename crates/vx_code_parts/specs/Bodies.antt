-- The body of a method: its labels, each with the number of the instruction behind it.
use Rattle.std.specs.Prelude.{ℕ, ◌+◌, List, [], ◌∷◌, ◌++◌, Option, Some, None, if◌then◌else◌}
use Rattle.std.specs.Str.{bytes_eq}
use Rattle.vx_source.specs.declared.statement.Statement.TheVariants as statement
use Rattle.vx_source.specs.declared.lines.Said.{Said}
use Rattle.vx_source.specs.declared.lines.Said.TheVariants as said
use Rattle.vx_source.specs.declared.lines.SourceLine.{SourceLine}
use Rattle.vx_code_parts.specs.declared.label_table.Label.{Label}
use Rattle.vx_code_parts.specs.declared.labels.Labels.{Labels}

-- a line that was refused stands for one instruction
abbrev pub after : Labels → Said → Labels
after l (said.Refused reason) = record { labels = l.labels; instructions = l.instructions + 1 }
after l (said.Statement (statement.Instruction i)) = record { labels = l.labels; instructions = l.instructions + 1 }
after l (said.Statement (statement.Label name)) = record { labels = l.labels ++ record { name = name; at = l.instructions } ∷ []; instructions = l.instructions }
after l (said.Statement s) = l

-- the labels of the lines up to the end of a body
unfoldable pub labels_from : Labels → List SourceLine → Labels
labels_from l [] = l
labels_from l (line ∷ lines) = if line.ends_body then l else labels_from (after l line.said) lines

abbrev pub labels_of : List SourceLine → Labels
labels_of lines = labels_from (record { labels = []; instructions = 0 }) lines

-- the number of the instruction behind a label
unfoldable pub find_label : List Label → List ℕ → Option ℕ
find_label [] name = None
find_label (l ∷ ls) name = if bytes_eq l.name name then Some l.at else find_label ls name
