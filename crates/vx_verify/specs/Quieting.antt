-- Positions whose handlers are reached.
use Rattle.std.specs.Prelude.{All, Bool, false, true, ℕ, ◌<◌, ◌≡◌, ◌≤◌}
use Rattle.vx_java.specs.Selection.{covers}
use Rattle.vx_verify.specs.Inference.{AreHandled, Goes, IsLooked, caught_state, known_of}
use Rattle.vx_verify.specs.States.{Stands}
use Rattle.vx_verify.specs.Typing.{IsReached}
use Rattle.vx_verify.specs.declared.inference.Inference.{Inference}
use Rattle.vx_verify.specs.declared.inference.Subject.{Subject}
use Rattle.vx_verify.specs.declared.quiet.Quiet.{Quiet}
use Rattle.vx_verify.specs.declared.rows.State.{State}

-- the handlers of the rows that cover a position are reached with these local variables
pub record IsCaughtUp (s : Subject) (i : Inference) (at locals : ℕ) : Type 0 where
  pub state : State
  pub stands : Stands i.store s.frame state
  pub same : state.locals ≡ locals
  pub handlers : All (λ row. covers row at ≡ true → IsReached s.program.now (known_of s i) row.handler (caught_state s i row state)) s.code.now.catches

-- no row covers a position, or that
abbrev pub IsQuietAt : Subject → Inference → (at locals : ℕ) → (is_free : Bool) → Type 0
IsQuietAt s i at locals true = All (λ row. covers row at ≡ false) s.code.now.catches
IsQuietAt s i at locals false = IsCaughtUp s i at locals

abbrev pub IsQuiet : Subject → Inference → Quiet → Type 0
IsQuiet s i q = (at : ℕ) → q.from ≤ at → at < q.to → IsQuietAt s i at q.locals q.is_free

-- what a step does, with such positions behind it
abbrev pub QuietGoes : Subject → (i j : Inference) → Quiet → Type 0
QuietGoes s i j q = Goes s i j × IsQuiet s j q

abbrev pub QuietHandled : Subject → (i j : Inference) → (at : ℕ) → State → Quiet → Type 0
QuietHandled s i j at before q = AreHandled s i j at before × IsQuiet s j q

abbrev pub QuietLooked : Subject → (i j : Inference) → (at : ℕ) → State → Quiet → Type 0
QuietLooked s i j at before q = IsLooked s i j at before × IsQuiet s j q
