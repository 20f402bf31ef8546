-- The verdict over all methods: a number past the last one has no code.
use Rattle.std.proofs.Common.{Bool, None, Option, inl, inr, length, subst, sym, ℕ, ◌<◌, ◌⊎◌, ◌≡◌, ◌≤◌, arith, ◌+◌, ◌∙◌}
use Rattle.std.proofs.lemmas.Bool.{cases_lt}
use Rattle.std.specs.Bool.{MatchBool}
use Rattle.std.specs.Prelude.{IfOk, Result}
use Rattle.vx_class.specs.declared.class_file.Code.{Code}
use Rattle.vx_link.specs.Parts.{no_method}
use Rattle.vx_link.specs.declared.program.LinkedMethod.{LinkedMethod}
use Rattle.vx_link.specs.declared.program.Program.{Program}
use Rattle.vx_verify.proofs.LocalLaws.{item_past}
use Rattle.vx_verify.proofs.Putting.{is_or_not}
use Rattle.vx_verify.specs.Typing.{IsCodeTyped, IsTyped}
use Rattle.vx_verify.specs.Verdict.{IsFirstUntyped, IsVerified}

-- ---- methods that are not there

past_typed : (p : Program) (m : ℕ) → length p.methods ≤ m → IsTyped p m
past_typed p m l = subst (λ (k : LinkedMethod). IsCodeTyped p m k.code) (sym (item_past p.methods m no_method l)) tt

pub all_verified : (p : Program) → ((m : ℕ) → m < length p.methods → IsTyped p m) → IsVerified p
all_verified p below m = by (cases_lt m (length p.methods))
  where
    by : (m < length p.methods) ⊎ (length p.methods ≤ m) → IsTyped p m
    by (inl l) = below m l
    by (inr l) = past_typed p m l

-- ---- one method after the other

pub first_untyped : (p : Program) (place number : ℕ) → number ≡ place → ((m : ℕ) → m < place → IsTyped p m) → ¬ IsTyped p number → IsFirstUntyped p number
first_untyped p place number e before untyped = record { untyped = untyped; earlier = λ m l. before m (omega (arith, l, e)) }

pub typed_more : (p : Program) (place number : ℕ) → number ≡ place → ((m : ℕ) → m < place → IsTyped p m) → IsTyped p number → (m : ℕ) → m < place + 1 → IsTyped p m
typed_more p place number e before typed m l = by (is_or_not m place)
  where
    by : (m ≡ place) ⊎ (¬ (m ≡ place)) → IsTyped p m
    by (inl same) = subst (λ n. IsTyped p n) (e ∙ sym same) typed
    by (inr other) = before m (omega (arith, l, other))

pub verdict_for : (p : Program) (m : ℕ) {E : Type 0} (r : Result Bool E) (o code : Option Code) → o ≡ code → IfOk r (λ typed. MatchBool typed (IsCodeTyped p m o) (¬ IsCodeTyped p m o))
    → IfOk r (λ typed. MatchBool typed (IsCodeTyped p m code) (¬ IsCodeTyped p m code))
verdict_for p m r o code e h = subst (λ (x : Option Code). IfOk r (λ typed. MatchBool typed (IsCodeTyped p m x) (¬ IsCodeTyped p m x))) e h

pub no_code_typed : (p : Program) (m : ℕ) (code : Option Code) → None ≡ code → IsCodeTyped p m code
no_code_typed p m code e = subst (λ (x : Option Code). IsCodeTyped p m x) e tt
