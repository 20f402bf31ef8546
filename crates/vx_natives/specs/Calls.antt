-- What a call of a native method is given at one configuration, by its values.
use Rattle.std.specs.Prelude.{Bool, false, true, List, None, Option, Some, [], if◌then◌else◌, unwrap_or, ◌∷◌}
use Rattle.vx_cond.specs.Cond.{Conditional, cond_at}
use Rattle.vx_space.specs.Sets.{Sets}
use Rattle.vx_value.specs.declared.slot.Slot.{Slot}
use Rattle.vx_value.specs.declared.slot.Slot.TheVariants.{Top}
use Rattle.vx_natives.specs.declared.call.Call.{Call}
use Rattle.vx_natives.specs.declared.call.Call.TheVariants.{Five, Four, Illegal, Nothing, One, Three, Two}

-- ---- values

-- one more behind them
abbrev pub with_value : Call → Slot → Call
with_value Nothing v = One v
with_value (One a) v = Two a v
with_value (Two a b) v = Three a b v
with_value (Three a b c) v = Four a b c v
with_value (Four a b c d) v = Five a b c d v
with_value _ v = Illegal

abbrev pub with_argument : Call → Option Slot → Call
with_argument call None = Illegal
with_argument call (Some v) = with_value call v

-- where a rule of the call holds
abbrev pub call_where : Call → Bool → Call
call_where call true = call
call_where call false = Illegal

-- the first value or the second
abbrev pub value_of_call : (second : Bool) → Call → Slot
value_of_call second (One a) = if second then Top else a
value_of_call second (Two a b) = if second then b else a
value_of_call second (Three a b c) = if second then b else a
value_of_call second (Four a b c d) = if second then b else a
value_of_call second (Five a b c d e) = if second then b else a
value_of_call second _ = Top

-- ---- lists

-- what a list of values is given as; there is room for five
abbrev pub call_of : List Slot → Call
call_of [] = Nothing
call_of (a ∷ []) = One a
call_of (a ∷ b ∷ []) = Two a b
call_of (a ∷ b ∷ c ∷ []) = Three a b c
call_of (a ∷ b ∷ c ∷ d ∷ []) = Four a b c d
call_of (a ∷ b ∷ c ∷ d ∷ e ∷ []) = Five a b c d e
call_of _ = Illegal

-- where a rule of the call is broken there are no values
abbrev pub call_given : Option (List Slot) → Call
call_given None = Illegal
call_given (Some values) = call_of values

-- the values of a call; with none where a rule is broken
abbrev pub values_of : Call → List Slot
values_of Illegal = []
values_of Nothing = []
values_of (One a) = a ∷ []
values_of (Two a b) = a ∷ b ∷ []
values_of (Three a b c) = a ∷ b ∷ c ∷ []
values_of (Four a b c d) = a ∷ b ∷ c ∷ d ∷ []
values_of (Five a b c d e) = a ∷ b ∷ c ∷ d ∷ e ∷ []

-- ---- at a configuration

abbrev pub call_at : {S I : Type 0} → Sets I → Conditional Call S I → List Bool → Call
call_at sets calls c = unwrap_or (cond_at sets calls c) Illegal
