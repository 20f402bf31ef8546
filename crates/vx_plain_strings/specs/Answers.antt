-- What a native method of the plain machine comes to: what the ordinary machine says of what it sees, of its arguments, and of the operands under them.
use Rattle.std.specs.Prelude.{IfOk, List, Result, [], drop, ◌∷◌}
use Rattle.vx_java.specs.Machine as machine
use Rattle.vx_java.specs.Texts.{NativeMethod}
use Rattle.vx_plain.specs.Views.{state_of, value_of}
use Rattle.vx_plain.specs.declared.state.State.{State}
use Rattle.vx_plain_here.specs.Rows.{ComesTo, here_in}
use Rattle.vx_plain_here.specs.declared.outcome.Outcome.{Outcome}
use Rattle.vx_plain_strings.specs.declared.call.Arguments.{Arguments}
use Rattle.vx_plain_strings.specs.declared.call.Arguments.TheVariants.{Five, Four, Nothing, One, Three, Two}
use Rattle.vx_plain_strings.specs.declared.call.Call.{Call}

-- the receiver, where there is one, and the arguments
abbrev pub listed : Arguments → List machine.Value
listed Nothing = []
listed (One a) = value_of a ∷ []
listed (Two a b) = value_of a ∷ value_of b ∷ []
listed (Three a b c) = value_of a ∷ value_of b ∷ value_of c ∷ []
listed (Four a b c d) = value_of a ∷ value_of b ∷ value_of c ∷ value_of d ∷ []
listed (Five a b c d e) = value_of a ∷ value_of b ∷ value_of c ∷ value_of d ∷ value_of e ∷ []

abbrev pub Answers : {E : Type 0} → Call → (machine.Here → List machine.Value → machine.Outcome) → (old new : State) → Result Outcome E → Type 0
Answers call said old new made =
    let s = state_of old in
    IfOk made (ComesTo (said (here_in call.here.now s) (drop call.taken s.top.operands)) s (state_of new))

-- what a native method says of the arguments
abbrev pub Does : {E : Type 0} → Call → NativeMethod → (old new : State) → Result Outcome E → Type 0
Does call native old new made = Answers call (λ h rest. native h (listed call.values) rest) old new made
