-- Arguments off the operands, and the locals that they take.
use Rattle.std.proofs.Common.{◌≡◌, ℕ, ◌+◌, ◌<◌, ◌≤◌, ◌++◌, Bool, true, false, List, [], ◌∷◌, length, drop, take, get_or, reverse, refl, sym, ap, ◌∙◌, append_assoc, add-one, drop-cons}
use Rattle.std.specs.Prelude.{None, Some}
use Rattle.vx_desc.specs.declared.java_type.JavaType.{JavaType}
use Rattle.vx_java.specs.Calls.{arguments_off, in_locals}
use Rattle.vx_java.specs.Machine.{Int, Long, Null, Ref, Text, Top, Value}
use Rattle.vx_plain.specs.Views.{value_of, values_of}
use Rattle.vx_plain.specs.declared.value.Value as plain
use Rattle.vx_plain_here.proofs.Matching.{as_many, given, not_given, not_there_by, there_by}
use Rattle.vx_plain_here.specs.Arguments.{all_fit}

-- ---- locals

locals_step : (v : Value) (rest : List Value) → in_locals (v ∷ []) ++ in_locals rest ≡ in_locals (v ∷ rest)
locals_step (Long n) rest = refl
locals_step Top rest = refl
locals_step (Int n) rest = refl
locals_step Null rest = refl
locals_step (Ref r) rest = refl
locals_step (Text units) rest = refl

pub local_put : (values : List plain.Value) (i : ℕ) (d : plain.Value) (locals more : List Value) → i < length values → more ≡ locals ++ in_locals (value_of (get_or values i d) ∷ [])
    → more ++ in_locals (values_of (drop (i + 1) values)) ≡ locals ++ in_locals (values_of (drop i values))
local_put values i d locals more lt e =
    ap (λ ls. ls ++ in_locals (values_of (drop (i + 1) values))) e
    ∙ append_assoc locals (in_locals (value_of (get_or values i d) ∷ [])) (in_locals (values_of (drop (i + 1) values)))
    ∙ ap (λ ls. locals ++ ls) (locals_step (value_of (get_or values i d)) (values_of (drop (i + 1) values)))
    ∙ rw add-one (sym (ap (λ vs. locals ++ in_locals (values_of vs)) (drop-cons values i d lt)))

-- ---- arguments

-- values that were copied, which are so many as their types and of their sorts
pub all_given : (types : List JavaType) (values copied : List plain.Value) (operands : List Value) (b : Bool) → values_of values ≡ reverse (take (length types) operands) → length types ≤ length operands
    → b ≡ all_fit types (values_of values) → b ≡ true → copied ≡ values
    → Some (values_of copied, drop (length copied) operands) ≡ arguments_off types operands
all_given types values copied operands b are le test holds same =
    ap (λ vs. Some (values_of vs, drop (length vs) operands)) same
    ∙ ap (λ n. Some (values_of values, drop n operands)) (sym (as_many values (length types) operands are le))
    ∙ ap (λ (vs : List Value). Some (vs, drop (length types) operands)) are
    ∙ sym (given types operands (sym (there_by types values operands are le) ∙ sym test ∙ holds))

pub one_differs : (types : List JavaType) (values : List plain.Value) (operands : List Value) (b : Bool) → values_of values ≡ reverse (take (length types) operands) → length types ≤ length operands
    → b ≡ all_fit types (values_of values) → b ≡ false → None ≡ arguments_off types operands
one_differs types values operands b are le test fails = sym (not_given types operands (sym (there_by types values operands are le) ∙ sym test ∙ fails))

pub one_lacks : (types : List JavaType) (operands : List Value) → length operands < length types → None ≡ arguments_off types operands
one_lacks types operands lt = sym (not_given types operands (sym (not_there_by types operands lt)))
