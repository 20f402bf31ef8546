-- What comes of an operand and a class that an instruction names.
use Rattle.std.specs.Prelude.{List, None, Option, Some, [], drop, false, ℕ, ◌∷◌}
use Rattle.vx_java.specs.Machine.{Here, Null, Outcome, Ref, State, Value, go, illegal, object_at, push, raise, unsupported, when}
use Rattle.vx_java.specs.Objects.{int_of_bool}
use Rattle.vx_java.specs.Operation.{class_word}
use Rattle.vx_link.specs.Assignability.{assignable}
use Rattle.vx_link.specs.declared.program.Program.{Program}
use Rattle.vx_plain_casts.specs.declared.casts.Cast.{Cast}
use Rattle.vx_plain_casts.specs.declared.casts.Cast.TheVariants.{Illegal, NoClass, Null as IsNull, Object}

abbrev pub missing : Option ℕ → Cast
missing (Some c) = Illegal
missing None = NoClass

abbrev pub tested_object : Program → State → (object : ℕ) → Option ℕ → Cast
tested_object p s r (Some c) = Object (assignable p (object_at s r).class c)
tested_object p s r None = NoClass

abbrev pub tested_value : Program → State → Option ℕ → Value → Cast
tested_value p s named Null = IsNull
tested_value p s named (Ref r) = tested_object p s r named
tested_value p s named v = missing named

abbrev pub tested : Program → State → Option ℕ → List Value → Cast
tested p s named [] = missing named
tested p s named (v ∷ rest) = tested_value p s named v

-- a cast: the operands stay
abbrev pub cast_by : Here → (name : List ℕ) → List Value → Cast → Outcome
cast_by h name operands IsNull = go h operands
cast_by h name operands NoClass = unsupported h class_word name
cast_by h name operands Illegal = illegal h
cast_by h name operands (Object fits) = when fits (go h operands) (raise h "java/lang/ClassCastException")

-- whether an object is of a class, in its place
abbrev pub instance_by : Here → (name : List ℕ) → List Value → Cast → Outcome
instance_by h name operands IsNull = push h (int_of_bool false) (drop 1 operands)
instance_by h name operands NoClass = unsupported h class_word name
instance_by h name operands Illegal = illegal h
instance_by h name operands (Object fits) = push h (int_of_bool fits) (drop 1 operands)
