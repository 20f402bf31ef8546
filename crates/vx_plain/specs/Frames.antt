-- Frames that are put on top and taken off.
use Rattle.std.specs.Prelude.{[], ◌∷◌, ◌≡◌}
use Rattle.vx_java.specs.Machine.{Frame, State}

-- a state with a frame above those that it has
abbrev pub with_frame : State → Frame → State
with_frame s f = record s { top = f; callers = s.top ∷ s.callers }

-- the frame on top has no caller, and the state stays
abbrev pub HasNoCaller : (old new : State) → Type 0
HasNoCaller old new = (old.callers ≡ []) × (new ≡ old)
