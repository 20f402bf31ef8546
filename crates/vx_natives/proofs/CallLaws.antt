-- Values that are put behind those of a call.
use Rattle.std.proofs.Common.{◌≡◌, List, [], ◌∷◌, ◌++◌, refl}
use Rattle.std.specs.Prelude.{Option, None, Some}
use Rattle.vx_value.specs.declared.slot.Slot.{Slot}
use Rattle.vx_natives.specs.Arguments.{with_slot}
use Rattle.vx_natives.specs.Calls.{call_given, call_of, with_argument, with_value}

pub call_more : (xs : List Slot) (x : Slot) → with_value (call_of xs) x ≡ call_of (xs ++ x ∷ [])
call_more [] x = refl
call_more (a ∷ []) x = refl
call_more (a ∷ b ∷ []) x = refl
call_more (a ∷ b ∷ c ∷ []) x = refl
call_more (a ∷ b ∷ c ∷ d ∷ []) x = refl
call_more (a ∷ b ∷ c ∷ d ∷ e ∷ []) x = refl
call_more (a ∷ b ∷ c ∷ d ∷ e ∷ f ∷ xs) x = refl

pub given_more : (given : Option (List Slot)) (argument : Option Slot) → with_argument (call_given given) argument ≡ call_given (with_slot given argument)
given_more None None = refl
given_more None (Some x) = refl
given_more (Some xs) None = refl
given_more (Some xs) (Some x) = call_more xs x
