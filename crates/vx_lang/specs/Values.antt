-- What native methods answer by the values of a call alone, at one configuration (the class library of Java SE 7).
use Rattle.std.specs.Int.{int_max, int_min, w32, w64}
use Rattle.std.specs.Prelude.{ℕ, ℤ, false, if◌then◌else◌, pos}
use Rattle.vx_group_states.specs.declared.answer.Answer.TheVariants as answer
use Rattle.vx_java.specs.FirstObjects.{first_boolean}
use Rattle.vx_java.specs.Library.{absolute}
use Rattle.vx_natives.specs.Deeds.{Deed, answers, raises}
use Rattle.vx_natives.specs.declared.behaviour.Computation.{Computation}
use Rattle.vx_natives.specs.declared.behaviour.Computation.TheVariants as compute
use Rattle.vx_natives.specs.declared.call.Call.{Call}
use Rattle.vx_natives.specs.declared.call.Call.TheVariants as given
use Rattle.vx_natives.specs.declared.effect.Exception.TheVariants.{Null as NullRaised}
use Rattle.vx_objects.specs.Answers.{same_slots}
use Rattle.vx_strings.specs.Questions.{gives_bool, gives_int, refused}
use Rattle.vx_value.specs.Arithmetic.{compare_long_of, same_int}
use Rattle.vx_value.specs.declared.slot.Slot.{Slot}
use Rattle.vx_value.specs.declared.slot.Slot.TheVariants.{Int, Long, Null, Ref}

abbrev pub gives : Slot → Deed
gives slot = answers (answer.Give slot)

-- the Boolean object of an int that is 0 for false
abbrev pub first_boolean_of : ℤ → ℕ
first_boolean_of n = first_boolean (if same_int n (pos 0) then 0 else 1)

-- ---- one value

abbrev pub computed_one : Computation → Slot → Deed
computed_one compute.Pass a = answers answer.Pass
computed_one compute.False a = gives_bool false
computed_one compute.Receiver (Ref r) = gives (Ref r)
computed_one compute.Exit (Int code) = answers (answer.Exit code)
computed_one compute.BooleanOf (Int n) = gives (Ref (first_boolean_of n))
computed_one compute.AbsoluteInt (Int n) = gives_int (absolute w32 n)
computed_one compute.AbsoluteLong (Long n) = gives (Long (absolute w64 n))
computed_one _ a = refused

-- ---- two values

abbrev pub of_two_ints : Computation → ℤ → ℤ → Deed
of_two_ints compute.CompareInts a b = gives_int (compare_long_of a b)
of_two_ints compute.GreaterInt a b = gives_int (int_max a b)
of_two_ints compute.LesserInt a b = gives_int (int_min a b)
of_two_ints _ a b = refused

abbrev pub of_two_longs : Computation → ℤ → ℤ → Deed
of_two_longs compute.GreaterLong a b = gives (Long (int_max a b))
of_two_longs compute.LesserLong a b = gives (Long (int_min a b))
of_two_longs _ a b = refused

abbrev pub of_two_numbers : Computation → Slot → Slot → Deed
of_two_numbers k (Int m) (Int n) = of_two_ints k m n
of_two_numbers k (Long m) (Long n) = of_two_longs k m n
of_two_numbers k a b = refused

-- of a suppressed exception nothing is kept
abbrev pub suppressed : Slot → Slot → Deed
suppressed (Ref r) (Ref s) = answers answer.Pass
suppressed (Ref r) Null = raises NullRaised
suppressed a b = refused

abbrev pub computed_two : Computation → Slot → Slot → Deed
computed_two compute.SameObject a b = gives_bool (same_slots a b)
computed_two compute.AddSuppressed a b = suppressed a b
computed_two k a b = of_two_numbers k a b

-- ---- a call

abbrev pub computed : Computation → Call → Deed
computed k (given.One a) = computed_one k a
computed k (given.Two a b) = computed_two k a b
computed k call = refused
