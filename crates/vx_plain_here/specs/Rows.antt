-- What a row of the plain machine says: what the row of the ordinary machine does. A state is changed in place, so an outcome is that over the state behind it.
use Rattle.std.specs.Prelude.{List, map, option_map, ℕ, ◌≡◌}
use Rattle.vx_java.specs.Machine as machine
use Rattle.vx_java.specs.Machine.{Begin as BeginOutcome, Ended as EndedOutcome, Go as GoOutcome, Native as NativeOutcome, Raise as RaiseOutcome, Throw as ThrowOutcome, Write as WriteOutcome}
use Rattle.vx_java.specs.Step.{frames_of}
use Rattle.vx_plain_here.specs.declared.here.Here.{Here}
use Rattle.vx_plain_here.specs.declared.outcome.Outcome.{Outcome}
use Rattle.vx_plain_here.specs.declared.outcome.Outcome.TheVariants.{Begin, Ended, Go, Native, Raise, Throw, Write}

-- what an instruction sees in a state
abbrev pub here_in : Here → machine.State → machine.Here
here_in h s = record { program = h.program.now; state = s; code = h.code.now; pool = h.pool.now; size = h.size }

-- an outcome over a state
abbrev pub outcome_over : machine.State → Outcome → machine.Outcome
outcome_over s Go = GoOutcome s
outcome_over s (Raise class message) = RaiseOutcome class.0 (option_map (λ units. units.items) message) s
outcome_over s (Throw object) = ThrowOutcome object s
outcome_over s (Begin class) = BeginOutcome class.0 s
outcome_over s (Native method) = NativeOutcome method.0 s
outcome_over s (Write stream units) = WriteOutcome stream units.items s
outcome_over s (Ended end) = EndedOutcome end

-- where the frames of a state stand
abbrev pub places_of : machine.State → List (ℕ × ℕ)
places_of s = map (λ f. (f.method, f.position)) (frames_of s)

-- unless the run goes on, the frames stand as they stood
abbrev pub Stands : machine.State → machine.State → Outcome → Type 0
Stands old new Go = Unit {0}
Stands old new (Write stream units) = Unit {0}
Stands old new _ = places_of new ≡ places_of old

-- what an attempt comes to is what the ordinary machine says
pub record ComesTo (said : machine.Outcome) (old new : machine.State) (outcome : Outcome) : Type 0 where
  pub same : outcome_over new outcome ≡ said
  pub stands : Stands old new outcome
