-- One step of unwinding: an exception passes the frame on top (JVMS 2.10, 5.5).
use Rattle.std.specs.Prelude.{◌≡◌, ℕ, Bool, true, false, None}
use Rattle.vx_java.specs.Machine.{State}
use Rattle.vx_java.specs.Machine.{Frame as MachineFrame}
use Rattle.vx_java.specs.Throwing.{handler_of, next_after_throw, passed_object, passed_state}
use Rattle.vx_link.specs.declared.program.Program.{Program}
use Rattle.vx_value.specs.declared.key.Kind.{Kind}
use Rattle.vx_value.specs.declared.key.Kind.TheVariants.{Call}
use Rattle.vx_frames.specs.Entering.{with_frame}

-- a frame of a call, and of no initialisation
abbrev pub is_call : Kind → Bool
is_call Call = true
is_call _ = false

-- Where the frame on top doesn't handle the object, what comes of throwing it is what comes of throwing the passed object in the state without that frame.
abbrev pub PassesFrames : Type 0
PassesFrames =
    (p : Program) (s below : State) (frame : MachineFrame) (r : ℕ)
    → passed_state p s s.top.kind r ≡ with_frame below frame → handler_of p s s.top.kind r ≡ None
    → next_after_throw p s r ≡ next_after_throw p below (passed_object p s s.top.kind r)
