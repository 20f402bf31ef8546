-- The report of the lockstep, what it says of one configuration, and the law that this is the configuration's own run (own).
use Rattle.std.specs.List.{list_any}
use Rattle.std.specs.Ordering.{nat_cmp}
use Rattle.std.specs.Prelude.{Bool, List, None, Option, Some, [], cond, false, filter, flat_map, map, true, ℕ, ◌==◌, ◌∷◌, ◌≡◌}
use Rattle.vx_java.specs.Lockstep.{ConfigRun, Lockstep, Piece, Shared, groups_of, lockstep}
use Rattle.vx_java.specs.Step.{Config, RunResult, result, run, same_config}
use Rattle.vx_link.specs.declared.program.Program.{Program}
use Rattle.vx_report.specs.Projection.{Projection}
use Rattle.vx_value.specs.Ends.{compare_ends}
use Rattle.vx_value.specs.declared.end.End.{End}
use Rattle.vx_value.specs.declared.end.Stream.{Stream}

-- ---- the report

-- the version, the limit and the number of rounds; a piece per round and distinct text; the distinct ends and, in version 2, numbers of attempts, ascending; each with its configurations
pub record LockReport : Type 0 where
  pub version : ℕ
  pub limit : ℕ
  pub rounds : ℕ
  pub pieces : List (Shared Piece)
  pub ends : List (Shared End)
  pub attempts : List (Shared ℕ)

-- the distinct numbers of attempts that the runs have used, in version 2
abbrev pub attempts_in : (has_attempts : Bool) → List ConfigRun → List (Shared ℕ)
attempts_in true members = groups_of nat_cmp (map (λ m. ((result m.run).attempts, m.config)) members) []
attempts_in false members = []

abbrev pub report_of : (limit version : ℕ) → Lockstep → LockReport
report_of n v l =
    record {
      version = v;
      limit = n;
      rounds = l.rounds;
      pieces = l.pieces;
      ends = groups_of compare_ends (map (λ m. ((result m.run).end, m.config)) l.members) [];
      attempts = attempts_in (v == 2) l.members;
    }

-- the report of a program for the allowed configurations, with a limit of attempts each
abbrev pub lock_report : Program → List Config → (limit version : ℕ) → LockReport
lock_report p allowed n v = report_of n v (lockstep p allowed n)

-- ---- projection

-- the values of the groups that a configuration is in, in their order
abbrev pub values_held : {A : Type 0} → Config → List (Shared A) → List A
values_held c [] = []
values_held c (g ∷ gs) = cond (list_any (same_config c) g.configs) (g.value ∷ values_held c gs) (values_held c gs)

abbrev pub bytes_of : Piece → List (Stream × ℕ)
bytes_of piece = map (λ b. (piece.0, b)) piece.1

abbrev pub first_of : {A : Type 0} → List A → Option A
first_of [] = None
first_of (x ∷ xs) = Some x

abbrev pub projection : List (Stream × ℕ) → Option End → Option ℕ → Option Projection
projection output None attempts = None
projection output (Some end) attempts = Some (record { output = output; end = end; attempts = attempts })

-- the joined texts of the pieces that a configuration is in, with its first end and number of attempts; none where it has no end
abbrev pub projection_at : LockReport → Config → Option Projection
projection_at r c = projection (flat_map bytes_of (values_held c r.pieces)) (first_of (values_held c r.ends)) (first_of (values_held c r.attempts))

-- ---- the law

-- what a report of a version says of a run: in version 1 nothing of its number of attempts
abbrev pub attempts_shown : (has_attempts : Bool) → ℕ → Option ℕ
attempts_shown true n = Some n
attempts_shown false n = None

abbrev pub projection_of : (version : ℕ) → RunResult → Projection
projection_of v r = record { output = r.output; end = r.end; attempts = attempts_shown (v == 2) r.attempts }

-- the report, projected at a configuration that stands once among the allowed ones, is the run of that configuration, in each version
abbrev pub LockstepIsRuns : Type 0
LockstepIsRuns =
    (p : Program) (n v : ℕ) (c : Config) (allowed : List Config)
    → filter (same_config c) allowed ≡ c ∷ []
    → projection_at (lock_report p allowed n v) c ≡ Some (projection_of v (run p c n))
