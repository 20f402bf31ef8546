-- What all runs have come to, and that this is what the report of lockstep says (own).
use Rattle.std.specs.Prelude.{◌≡◌, not, ℕ, Bool, true, false, List, map, filter, length, Contains, Some, None, ◌==◌, if◌then◌else◌, []}
use Rattle.std.specs.List.{list_all}
use Rattle.std.specs.Ordering.{nat_cmp}
use Rattle.vx_space.specs.Sets.{Sets, AreKnown}
use Rattle.vx_cond.specs.Leaves.{AreLeaves, value_at}
use Rattle.vx_findings.specs.declared.piece.Piece.{Piece}
use Rattle.vx_findings.specs.declared.shared.Shared.{Shared}
use Rattle.vx_findings.specs.Shared.{leaves_of}
use Rattle.vx_java.specs.Lockstep as lockstep
use Rattle.vx_java.specs.Report.{LockReport}
use Rattle.vx_java.specs.Step.{Config, run}
use Rattle.vx_link.specs.declared.program.Program.{Program}
use Rattle.vx_value.specs.Ends.{compare_ends}
use Rattle.vx_value.specs.declared.end.End.{End}
use Rattle.vx_standing.specs.State.{result_at, shared_ids}

-- `Findings` as contracts see them: the rounds, the texts in the order in which they were written, the ends, the numbers of attempts
pub record FindingsView (S I : Type 0) : Type 0 where
  pub rounds : ℕ
  pub found : List (Shared Piece S I)
  pub ends : List (Shared End S I)
  pub spent : List (Shared ℕ S I)

-- nothing was found at a configuration: no set of a text holds it, and it has neither an end nor a number of attempts
pub record IsNotFound {S I : Type 0} (sets : Sets I) (f : FindingsView S I) (c : Config) : Type 0 where
  pub texts : list_all (λ id. not (sets.test id c)) (shared_ids f.found) ≡ true
  pub end : value_at sets (leaves_of f.ends) c ≡ None
  pub spent : value_at sets (leaves_of f.spent) c ≡ None

-- the findings of the runs of these configurations: at each of them its own run within the limit, at all others nothing
pub record AreFindings {S I : Type 0} (p : Program) (sets : Sets I) (is_allowed : Config → Bool) (limit : ℕ) (f : FindingsView S I) : Type 0 where
  pub known : AreKnown sets (shared_ids f.found)
  pub ends : AreLeaves compare_ends sets (leaves_of f.ends)
  pub spent : AreLeaves nat_cmp sets (leaves_of f.spent)
  pub runs : (c : Config) → is_allowed c ≡ true → result_at sets f.found f.ends f.spent c ≡ Some (run p c limit)
  pub others : (c : Config) → is_allowed c ≡ false → IsNotFound sets f c

-- ---- the report of lockstep

-- a list of just the allowed configurations of so many options
pub record AreAllowed (options : ℕ) (is_allowed : Config → Bool) (list : List Config) : Type 0 where
  pub sound : (c : Config) → Contains list c → is_allowed c ≡ true
  pub complete : (c : Config) → length c ≡ options → is_allowed c ≡ true → Contains list c

-- a value with those configurations of a list that have it
abbrev pub shared_by : {A S I : Type 0} → Sets I → List Config → Shared A S I → lockstep.Shared A
shared_by sets list shared = record { value = shared.value; configs = filter (sets.test shared.condition) list }

abbrev pub piece_by : {S I : Type 0} → Sets I → List Config → Shared Piece S I → lockstep.Shared lockstep.Piece
piece_by sets list text = record { value = (text.value.stream, text.value.text); configs = filter (sets.test text.condition) list }

-- what the findings say of the configurations of a list, as a report of lockstep
abbrev pub report_by : {S I : Type 0} → Sets I → List Config → (limit version : ℕ) → FindingsView S I → LockReport
report_by sets list limit version f =
    record {
      version = version;
      limit = limit;
      rounds = f.rounds;
      pieces = map (piece_by sets list) f.found;
      ends = map (shared_by sets list) f.ends;
      attempts = if version == 2 then map (shared_by sets list) f.spent else [];
    }
