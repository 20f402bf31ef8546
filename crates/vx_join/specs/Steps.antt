-- What is collected on the way to a join.
use Rattle.std.specs.Prelude.{◌≡◌, ◌≢◌, ℕ, Bool, false, true, not, ◌&&◌, List, [], ◌∷◌, ◌++◌, Option, drop, find, length, map, option_map, if◌then◌else◌}
use Rattle.std.specs.Ordering.{nat_cmp}
use Rattle.vx_value.specs.Ends.{compare_ends}
use Rattle.vx_space.specs.Sets.{Sets, IsSet}
use Rattle.vx_cond.specs.Leaves.{AreLeaves, AreLeavesOf, IsApart, value_at}
use Rattle.vx_bdd_tools.specs.declared.node.Node.{Node}
use Rattle.vx_bdd_tools.specs.Nodes.{holds}
use Rattle.vx_findings.specs.declared.piece.Piece.{Piece}
use Rattle.vx_findings.specs.declared.shared.Shared.{Shared}
use Rattle.vx_findings.specs.Shared.{leaves_of}
use Rattle.vx_report.specs.declared.report.Report.{Report}
use Rattle.vx_report.specs.Projection.{attempts_at, end_at}
use Rattle.vx_cover.specs.Covers.{has_end}
use Rattle.vx_report.specs.declared.report.AttemptLine.{AttemptLine}
use Rattle.vx_report.specs.declared.report.EndLine.{EndLine}
use Rattle.vx_report.specs.declared.report.Piece as lines
use Rattle.vx_list.specs.Places.{item_or}
use Rattle.vx_value.specs.declared.end.End.{End}
use Rattle.vx_join.specs.declared.collecting.Collected.{Collected}
use Rattle.vx_join.specs.Joined.{Told, attempts_said, end_said, told_by, told_of}

-- the value of the first entry whose node holds the configuration
abbrev pub first_in : {E V : Type 0} → (node_of : E → ℕ) → (value_of : E → V) → List Node → List E → List Bool → Option V
first_in node_of value_of nodes entries c = option_map value_of (find (λ e. holds nodes (node_of e) c) entries)

-- one thing inside a set, another outside of it
abbrev pub inside : {A : Type 0} → (set : List Bool → Bool) → (within outside : List Bool → A) → List Bool → A
inside set within outside c = if set c then within c else outside c

-- a text with its set
pub record IsToldBy {S I : Type 0} (sets : Sets I) (shared : Shared Piece S I) (told : Told) : Type 0 where
  pub stream : shared.value.stream ≡ told.stream
  pub text : shared.value.text ≡ told.text
  pub set : IsSet sets shared.condition told.set
  pub some : shared.condition ≢ sets.never

-- these are the texts that some configuration has
pub data AreTold {S I : Type 0} (sets : Sets I) : List (Shared Piece S I) → List Told → Type 0 where
  none : AreTold sets [] []
  kept : (shared : Shared Piece S I) (found : List (Shared Piece S I)) (t : Told) (told : List Told) → IsToldBy sets shared t → AreTold sets found told → AreTold sets (shared ∷ found) (t ∷ told)
  dropped : (found : List (Shared Piece S I)) (t : Told) (told : List Told) → ((c : List Bool) → t.set c ≡ false) → AreTold sets found told → AreTold sets found (t ∷ told)

-- the texts, ends and numbers of attempts of some reports, each with its set
pub record AreCollected {S I : Type 0} (sets : Sets I) (reports : List Report) (collected : Collected S I) : Type 0 where
  pub found : AreTold sets collected.found.items (told_by (λ c. true) reports)
  pub ends : AreLeavesOf compare_ends sets (end_said reports) (leaves_of collected.ends.items)
  pub spent : AreLeavesOf nat_cmp sets (attempts_said reports) (leaves_of collected.spent.items)

-- a set of configurations in which nothing was collected
pub record IsPartly {S I : Type 0} (sets : Sets I) (unsaid : I) (collected : Collected S I) : Type 0 where
  pub unsaid_known : sets.is_known unsaid ≡ true
  pub ends : AreLeaves compare_ends sets (leaves_of collected.ends.items)
  pub ends_apart : IsApart sets unsaid (leaves_of collected.ends.items)
  pub spent : AreLeaves nat_cmp sets (leaves_of collected.spent.items)
  pub spent_apart : IsApart sets unsaid (leaves_of collected.spent.items)

-- what one report says in those configurations was collected too, and this is the set of those that have no end in it
pub record IsOneMore {S I : Type 0} (old new : Sets I) (unsaid : I) (r : Report) (before : Collected S I) (rest : I) (after : Collected S I) : Type 0 where
  pub rest_is : IsSet new rest (λ c. old.test unsaid c && not (has_end r c))
  pub found : (told : List Told) → AreTold old before.found.items told → AreTold new after.found.items (told ++ map (told_of (λ c. old.test unsaid c && has_end r c) r.nodes) r.pieces)
  pub ends : AreLeavesOf compare_ends new (inside (old.test unsaid) (end_at r) (value_at old (leaves_of before.ends.items))) (leaves_of after.ends.items)
  pub spent : AreLeavesOf nat_cmp new (inside (λ c. old.test unsaid c && has_end r c) (attempts_at r) (value_at old (leaves_of before.spent.items))) (leaves_of after.spent.items)

-- a line for each value, with the numbers one after the other
abbrev pub lines_with : {V L S I : Type 0} → (line : ℕ → V → L) → List (Shared V S I) → List ℕ → List L
lines_with line [] numbers = []
lines_with line (shared ∷ values) numbers = line (item_or numbers 0 0) shared.value ∷ lines_with line values (drop 1 numbers)

abbrev pub piece_line : ℕ → Piece → lines.Piece
piece_line node piece = record { node = node; stream = piece.stream; text = piece.text }

abbrev pub end_line : ℕ → End → EndLine
end_line node end = record { node = node; end = end }

abbrev pub attempts_line : ℕ → ℕ → AttemptLine
attempts_line node attempts = record { node = node; attempts = attempts }

abbrev pub shared_ids : {V S I : Type 0} → List (Shared V S I) → List I
shared_ids values = map (λ shared. shared.condition) values

-- the sets of all that was collected
abbrev pub collected_ids : {S I : Type 0} → Collected S I → List I
collected_ids collected = shared_ids collected.found.items ++ (shared_ids collected.ends.items ++ shared_ids collected.spent.items)

-- the report of what was collected, with the version, the options and the limit of another one
abbrev pub report_by : {S I : Type 0} → Report → (rounds : ℕ) → Collected S I → List Node → (numbers : List ℕ) → Report
report_by like rounds collected nodes numbers = record {
  version = like.version;
  options = like.options;
  limit = like.limit;
  rounds = rounds;
  nodes = nodes;
  pieces = lines_with piece_line collected.found.items numbers;
  ends = lines_with end_line collected.ends.items (drop (length collected.found.items) numbers);
  attempts = lines_with attempts_line collected.spent.items (drop (length collected.ends.items) (drop (length collected.found.items) numbers));
}
