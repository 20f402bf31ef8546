-- One report out of several, over the same options, limit and version: at each configuration it says what the first of them says in which the configuration has an end (own).
use Rattle.std.specs.Prelude.{◌≡◌, ◌^◌, ℕ, Bool, false, true, not, ◌&&◌, ◌||◌, nat_eq, nat_lt, List, [], ◌∷◌, ◌++◌, Option, None, Some, is_some, filter, length, map, option_and_then, option_map, sum}
use Rattle.std.specs.List.{AllByRecursion, AllZip, list_any}
use Rattle.std.specs.Option.{option_or}
use Rattle.vx_value.specs.declared.end.End.{End}
use Rattle.vx_value.specs.declared.end.Stream.{Stream}
use Rattle.vx_bdd_tools.specs.declared.node.Node.{Node}
use Rattle.vx_bdd_tools.specs.Nodes.{holds}
use Rattle.vx_report.specs.declared.report.AttemptLine.{AttemptLine}
use Rattle.vx_report.specs.declared.report.EndLine.{EndLine}
use Rattle.vx_report.specs.declared.report.Piece.{Piece}
use Rattle.vx_report.specs.declared.report.Report.{Report}
use Rattle.vx_report.specs.Projection.{Projection, project}
use Rattle.vx_report_reader.specs.Lawful.{IsLawful}
use Rattle.vx_cover.specs.Covers.{has_end}
use Rattle.vx_count.specs.Settings.{settings}

-- what the first report says in which the configuration has an end; none where it has an end in none
abbrev pub first_said : List Report → List Bool → Option Projection
first_said [] c = None
first_said (r ∷ reports) c = option_or (project r c) (first_said reports c)

abbrev pub end_said : List Report → List Bool → Option End
end_said reports c = option_map (λ (p : Projection). p.end) (first_said reports c)

abbrev pub attempts_said : List Report → List Bool → Option ℕ
attempts_said reports c = option_and_then (λ (p : Projection). p.attempts) (first_said reports c)

-- how many rounds they made together
abbrev pub rounds_of : List Report → ℕ
rounds_of reports = sum (map (λ r. r.rounds) reports)

-- ---- texts

-- a text on a stream, and the configurations that have it
pub record Told : Type 0 where
  pub stream : Stream
  pub text : List ℕ
  pub set : List Bool → Bool

abbrev pub told_of : (scope : List Bool → Bool) → List Node → Piece → Told
told_of scope nodes piece = record { stream = piece.stream; text = piece.text; set = λ c. scope c && holds nodes piece.node c }

-- the texts of each report within its scope: the configurations that have an end in it, and in none before it
abbrev pub told_by : (unsaid : List Bool → Bool) → List Report → List Told
told_by unsaid [] = []
told_by unsaid (r ∷ reports) = map (told_of (λ c. unsaid c && has_end r c) r.nodes) r.pieces ++ told_by (λ c. unsaid c && not (has_end r c)) reports

-- some setting of so many options has the text
abbrev pub is_had : ℕ → Told → Bool
is_had options told = list_any told.set (settings options)

-- the texts that some configuration has
abbrev pub all_told : ℕ → List Report → List Told
all_told options reports = filter (is_had options) (told_by (λ c. true) reports)

-- a piece is this text, for just the configurations that have it
pub record IsTold (nodes : List Node) (piece : Piece) (told : Told) : Type 0 where
  pub stream : piece.stream ≡ told.stream
  pub text : piece.text ≡ told.text
  pub holds : (c : List Bool) → holds nodes piece.node c ≡ told.set c

-- ---- the whole

-- two reports are of one version and limit, over the same options
pub record IsLike (one other : Report) : Type 0 where
  pub version : one.version ≡ other.version
  pub options : one.options ≡ other.options
  pub limit : one.limit ≡ other.limit

-- a line holds only configurations of which its end, or its number of attempts, is said
abbrev pub IsEndSaid : List Report → List Node → EndLine → Type 0
IsEndSaid reports nodes line = (c : List Bool) → holds nodes line.node c ≡ true → end_said reports c ≡ Some line.end

abbrev pub IsNumberSaid : List Report → List Node → AttemptLine → Type 0
IsNumberSaid reports nodes line = (c : List Bool) → holds nodes line.node c ≡ true → attempts_said reports c ≡ Some line.attempts

-- The report is the join of these: its version, options and limit are theirs, and its rounds are theirs together. At each configuration it says what the first of them says in which the configuration has an end, and where there is none, nothing. Its pieces are theirs, one report after the other; its ends and numbers of attempts hold no configuration but those of which they are said.
pub record IsJoined (reports : List Report) (r : Report) : Type 0 where
  pub like : AllByRecursion (IsLike r) reports
  pub rounds : r.rounds ≡ rounds_of reports
  pub says : (c : List Bool) → project r c ≡ first_said reports c
  pub pieces : AllZip (IsTold r.nodes) r.pieces (all_told (length r.options) reports)
  pub ends : AllByRecursion (IsEndSaid reports r.nodes) r.ends
  pub attempts : AllByRecursion (IsNumberSaid reports r.nodes) r.attempts

-- a report can say it: the rounds fit into 128 bits, and where version 2 asks for a number of attempts, some setting has one
abbrev pub is_joinable : List Report → Bool
is_joinable [] = false
is_joinable (first ∷ others) = nat_lt (rounds_of (first ∷ others)) (2 ^ 128) && (not (nat_eq first.version 2) || list_any (λ c. is_some (attempts_said (first ∷ others) c)) (settings (length first.options)))

-- their join, which is lawful; or there is none
abbrev pub IsJoin : List Report → Option Report → Type 0
IsJoin reports None = is_joinable reports ≡ false
IsJoin reports (Some r) = (is_joinable reports ≡ true) × IsLawful r × IsJoined reports r
