-- A report copied over more options: the sets of its nodes there, and its lines with other nodes.
use Rattle.std.specs.Prelude.{◌≡◌, ℕ, ◌+◌, ◌<◌, ◌^◌, Bool, List, [], ◌∷◌, Some, drop, length, slice_get}
use Rattle.std.specs.List.{AllZip}
use Rattle.vx_space.specs.Sets.{Sets, IsSet}
use Rattle.vx_list.specs.Places.{item_or}
use Rattle.vx_bdd_tools.specs.declared.node.Node.{Node}
use Rattle.vx_bdd_tools.specs.Nodes.{holds}
use Rattle.vx_bdd_tools.specs.Numbering.{IsNumbered}
use Rattle.vx_report.specs.declared.report.AttemptLine.{AttemptLine}
use Rattle.vx_report.specs.declared.report.EndLine.{EndLine}
use Rattle.vx_report.specs.declared.report.Piece.{Piece}
use Rattle.vx_report.specs.declared.report.Report.{Report}
use Rattle.vx_report_reader.specs.Rules.{roots_of}
use Rattle.vx_compare.specs.Names.{places_of, values_at}

-- beside each number of a list of nodes, from never and always on, stands the id of the set that it holds of the values at some places
pub record AreSeenSets {I : Type 0} (sets : Sets I) (places : List ℕ) (nodes : List Node) (ids : List I) : Type 0 where
  pub number : length ids ≡ length nodes + 2
  pub each : (k : ℕ) (id : I) → slice_get ids k ≡ Some id → IsSet sets id (λ c. holds nodes k (values_at places c))

-- the id beside a number, and that of never where there is none
abbrev pub set_at : {I : Type 0} → Sets I → List I → ℕ → I
set_at sets ids k = item_or ids k sets.never

-- a number holds what another one holds of the values at some places
abbrev pub HoldsSeen : (places : List ℕ) → (nodes wide : List Node) → ℕ → ℕ → Type 0
HoldsSeen places nodes wide k n = (c : List Bool) → holds wide n c ≡ holds nodes k (values_at places c)

-- nodes over other names, in the numbering of a report, and for each number that a report names one that holds the same of what the report sees
pub record IsSeenListing (r : Report) (all : List (List ℕ)) (wide : List Node) (numbers : List ℕ) : Type 0 where
  pub hold : AllZip (HoldsSeen (places_of all r.options) r.nodes wide) (roots_of r) numbers
  pub numbered : IsNumbered (length all) wide numbers
  pub short : length wide < 2 ^ 63

-- lines with other numbers, one after the other
abbrev pub renumbered : {L : Type 0} → (with_node : ℕ → L → L) → List L → List ℕ → List L
renumbered with_node [] numbers = []
renumbered with_node (line ∷ lines) numbers = with_node (item_or numbers 0 0) line ∷ renumbered with_node lines (drop 1 numbers)

abbrev pub piece_with : ℕ → Piece → Piece
piece_with node piece = record { node = node; stream = piece.stream; text = piece.text }

abbrev pub end_with : ℕ → EndLine → EndLine
end_with node line = record { node = node; end = line.end }

abbrev pub attempts_with : ℕ → AttemptLine → AttemptLine
attempts_with node line = record { node = node; attempts = line.attempts }

-- a report with other options and nodes, whose numbers are those of its pieces, then of its ends, then of its numbers of attempts
abbrev pub wide_report : Report → List (List ℕ) → List Node → List ℕ → Report
wide_report r options nodes numbers =
    let behind_pieces = drop (length r.pieces) numbers in
    let behind_ends = drop (length r.ends) behind_pieces in
    record {
      version = r.version;
      options = options;
      limit = r.limit;
      rounds = r.rounds;
      nodes = nodes;
      pieces = renumbered piece_with r.pieces numbers;
      ends = renumbered end_with r.ends behind_pieces;
      attempts = renumbered attempts_with r.attempts behind_ends;
    }
