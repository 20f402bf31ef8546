-- What making a class ready comes to.
use Rattle.std.specs.Prelude.{◌≡◌, ℕ, None, Option, Some}
use Rattle.vx_java.specs.Initialisation.{when_initialised}
use Rattle.vx_java.specs.Machine as machine
use Rattle.vx_java.specs.Machine.{in_state}
use Rattle.vx_plain_here.specs.Rows.{ComesTo, places_of}
use Rattle.vx_plain_here.specs.declared.outcome.Outcome.{Outcome}

-- the row goes on in a later state, which has the frames of the one before
pub record Proceeds (h : machine.Here) (class : ℕ) (new : machine.State) : Type 0 where
  pub same : (rest : machine.Here → machine.Outcome) → when_initialised h class rest ≡ rest (in_state h new)
  pub top : new.top ≡ h.state.top
  pub stands : places_of new ≡ places_of h.state

-- the row goes on, or the attempt comes to this, whatever would follow
abbrev pub Readied : machine.Here → ℕ → machine.State → Option Outcome → Type 0
Readied h class new None = Proceeds h class new
Readied h class new (Some outcome) = (rest : machine.Here → machine.Outcome) → ComesTo (when_initialised h class rest) h.state new outcome
