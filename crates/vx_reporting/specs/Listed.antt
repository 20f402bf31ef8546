-- The lines of a report for values with their sets: each value with the number of its set's node.
use Rattle.std.specs.Prelude.{ℕ, List, [], ◌∷◌, drop, if◌then◌else◌, length, ◌==◌, ◌+◌}
use Rattle.vx_bdd_tools.specs.declared.node.Node.{Node}
use Rattle.vx_lockstep.specs.Findings.{FindingsView}
use Rattle.vx_findings.specs.declared.piece.Piece as written
use Rattle.vx_findings.specs.declared.shared.Shared.{Shared}
use Rattle.vx_list.specs.Places.{item_or}
use Rattle.vx_report.specs.declared.report.AttemptLine.{AttemptLine}
use Rattle.vx_report.specs.declared.report.EndLine.{EndLine}
use Rattle.vx_report.specs.declared.report.Piece.{Piece}
use Rattle.vx_report.specs.declared.report.Report.{Report}
use Rattle.vx_value.specs.declared.end.End.{End}

-- a line for each value, with the numbers one after the other
abbrev pub lines_with : {V L S I : Type 0} → (ℕ → V → L) → List (Shared V S I) → List ℕ → List L
lines_with line [] numbers = []
lines_with line (shared ∷ list) numbers = line (item_or numbers 0 0) shared.value ∷ lines_with line list (drop 1 numbers)

abbrev pub piece_line : ℕ → written.Piece → Piece
piece_line node piece = record { node = node; stream = piece.stream; text = piece.text }

abbrev pub end_line : ℕ → End → EndLine
end_line node end = record { node = node; end = end }

abbrev pub attempts_line : ℕ → ℕ → AttemptLine
attempts_line node attempts = record { node = node; attempts = attempts }

-- the report of findings whose sets have these nodes and numbers: the texts first, then the ends, then the numbers of attempts
abbrev pub report_with : {S I : Type 0} → (version : ℕ) → (options : List (List ℕ)) → (limit : ℕ) → FindingsView S I → List Node → (numbers : List ℕ) → Report
report_with version options limit f nodes numbers =
    record {
      version = version;
      options = options;
      limit = limit;
      rounds = f.rounds;
      nodes = nodes;
      pieces = lines_with piece_line f.found numbers;
      ends = lines_with end_line f.ends (drop (length f.found) numbers);
      attempts = if version == 2 then lines_with attempts_line f.spent (drop (length f.found + length f.ends) numbers) else [];
    }
