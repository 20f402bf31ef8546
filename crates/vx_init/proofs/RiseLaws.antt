-- How far the classes that have not begun go up, against the chain of the ordinary machine.
use Rattle.std.proofs.Common.{◌≡◌, ℕ, ◌+◌, zero, suc, Bool, true, false, List, [], ◌∷◌, refl, sym, ◌∙◌, ap, subst, arith, cond, length}
use Rattle.std.specs.Prelude.{Option, Some, None, find, not, option_map}
use Rattle.vx_java.proofs.Chains.{begins_goes_on, begins_stops, begins_with, not_begun}
use Rattle.vx_java.specs.Ids.{as_class}
use Rattle.vx_java.specs.Initialisation.{blocked, chain_blocked, has_failed, is_failed}
use Rattle.vx_java.specs.Machine.{init_at}
use Rattle.vx_link.specs.Hierarchy.{chain_within, superclass_of, superclasses}
use Rattle.vx_link.specs.declared.program.Program.{Program}
use Rattle.vx_value.specs.declared.slot.InitState.{InitState}
use Rattle.vx_value.specs.declared.slot.InitState.TheVariants.{Not, Running, Done, Failed}
use Rattle.vx_init.specs.Rising.{above, climbed_at, if_blocked, is_open, rise_of, rise_on}
use Rattle.vx_init.specs.declared.rise.Rise.{Rise}
use Rattle.vx_init.specs.declared.rise.Rise.TheVariants.{Open, Begins, Fails, Blocked}

-- ---- a rise that isn't open stays

stays : (p : Program) (inits : List InitState) (below class : ℕ) (rise : Rise) → is_open rise ≡ false → climbed_at p inits below class rise ≡ rise
stays p inits below class Open h = cc h
stays p inits below class (Begins n) h = refl
stays p inits below class (Fails n) h = refl
stays p inits below class (Blocked i) h = refl

pub closed_stays : (p : Program) (inits : List InitState) (below : ℕ) (classes : List ℕ) (rise : Rise) → is_open rise ≡ false → rise_on p inits below classes rise ≡ rise
closed_stays p inits below [] rise h = refl
closed_stays p inits below (d ∷ ds) rise h = ap (rise_on p inits (below + 1) ds) (stays p inits below d rise h) ∙ closed_stays p inits (below + 1) ds rise h

-- ---- what it says

-- the first of these classes that has begun
abbrev pub first_begun : List InitState → List ℕ → Option ℕ
first_begun inits classes = find (λ d. not (not_begun inits d)) classes

-- of the classes from one upward, with so many below it
abbrev pub IsRise : Program → List InitState → (below : ℕ) → List ℕ → Rise → Type 0
IsRise p inits below classes Open = (begins_with inits classes ≡ classes) × (chain_blocked p (begins_with inits classes) ≡ None) × (has_failed inits (first_begun inits classes) ≡ false)
IsRise p inits below classes (Begins n) = (n ≡ below + length (begins_with inits classes)) × (chain_blocked p (begins_with inits classes) ≡ None) × (has_failed inits (first_begun inits classes) ≡ false)
IsRise p inits below classes (Fails n) = (n ≡ below + length (begins_with inits classes)) × (chain_blocked p (begins_with inits classes) ≡ None) × (has_failed inits (first_begun inits classes) ≡ true)
IsRise p inits below classes (Blocked i) = chain_blocked p (begins_with inits classes) ≡ Some i.0

more_below : (n below few : ℕ) → n ≡ (below + 1) + few → n ≡ below + suc few
more_below n below few h = omega (arith, h)

none_below : (below : ℕ) → below ≡ below + 0
none_below below = omega arith

-- a class more, which has not begun and before which no interface would be initialised
module _ (p : Program) (inits : List InitState) (below d : ℕ) (ds : List ℕ) (begun : not_begun inits d ≡ true) where
  chain : begins_with inits (d ∷ ds) ≡ d ∷ begins_with inits ds
  chain = begins_goes_on inits d ds begun

  found : first_begun inits (d ∷ ds) ≡ first_begun inits ds
  found = ap (λ b. cond (not b) (Some d) (first_begun inits ds)) begun

  free : blocked p d ≡ None → chain_blocked p (begins_with inits (d ∷ ds)) ≡ chain_blocked p (begins_with inits ds)
  free h = ap (chain_blocked p) chain ∙ ap (λ (o : Option ℕ). elim o [ Some i ↦ Some i | None ↦ chain_blocked p (begins_with inits ds) ]) h

  stopped : (i : ℕ) → blocked p d ≡ Some i → chain_blocked p (begins_with inits (d ∷ ds)) ≡ Some i
  stopped i h = ap (chain_blocked p) chain ∙ ap (λ (o : Option ℕ). elim o [ Some j ↦ Some j | None ↦ chain_blocked p (begins_with inits ds) ]) h

  number : (n : ℕ) → n ≡ (below + 1) + length (begins_with inits ds) → n ≡ below + length (begins_with inits (d ∷ ds))
  number n h = more_below n below (length (begins_with inits ds)) h ∙ ap (λ cs. below + length cs) (sym chain)

  lifted : blocked p d ≡ None → (rise : Rise) → IsRise p inits (below + 1) ds rise → IsRise p inits below (d ∷ ds) rise
  lifted h Open k = (chain ∙ ap (λ cs. d ∷ cs) k.0, free h ∙ k.1, ap (has_failed inits) found ∙ k.2)
  lifted h (Begins n) k = (number n k.0, free h ∙ k.1, ap (has_failed inits) found ∙ k.2)
  lifted h (Fails n) k = (number n k.0, free h ∙ k.1, ap (has_failed inits) found ∙ k.2)
  lifted h (Blocked i) k = free h ∙ k

  by_blocked : ((rise : Rise) → rise ≡ rise_on p inits (below + 1) ds Open → IsRise p inits (below + 1) ds rise) → (o : Option ℕ) → blocked p d ≡ o → IsRise p inits below (d ∷ ds) (rise_on p inits (below + 1) ds (if_blocked (option_map as_class o)))
  by_blocked rest None h = lifted h (rise_on p inits (below + 1) ds Open) (rest (rise_on p inits (below + 1) ds Open) refl)
  by_blocked rest (Some i) h = subst (IsRise p inits below (d ∷ ds)) (sym (closed_stays p inits (below + 1) ds (Blocked (as_class i)) refl)) (stopped i h)

-- a class that has begun
module _ (p : Program) (inits : List InitState) (below d : ℕ) (ds : List ℕ) (begun : not_begun inits d ≡ false) where
  no_chain : begins_with inits (d ∷ ds) ≡ []
  no_chain = begins_stops inits d ds begun

  first : first_begun inits (d ∷ ds) ≡ Some d
  first = ap (λ b. cond (not b) (Some d) (first_begun inits ds)) begun

  few : below ≡ below + length (begins_with inits (d ∷ ds))
  few = none_below below ∙ ap (λ cs. below + length cs) (sym no_chain)

  begins_here : is_failed (init_at inits d) ≡ false → IsRise p inits below (d ∷ ds) (rise_on p inits (below + 1) ds (Begins below))
  begins_here h = subst (IsRise p inits below (d ∷ ds)) (sym (closed_stays p inits (below + 1) ds (Begins below) refl)) (few, ap (chain_blocked p) no_chain, ap (has_failed inits) first ∙ h)

  fails_here : is_failed (init_at inits d) ≡ true → IsRise p inits below (d ∷ ds) (rise_on p inits (below + 1) ds (Fails below))
  fails_here h = subst (IsRise p inits below (d ∷ ds)) (sym (closed_stays p inits (below + 1) ds (Fails below) refl)) (few, ap (chain_blocked p) no_chain, ap (has_failed inits) first ∙ h)

pub is_rise : (p : Program) (inits : List InitState) (below : ℕ) (classes : List ℕ) (rise : Rise) → rise ≡ rise_on p inits below classes Open → IsRise p inits below classes rise
is_rise p inits below [] rise e = subst (IsRise p inits below []) (sym e) (refl, refl, refl)
is_rise p inits below (d ∷ ds) rise e = subst (IsRise p inits below (d ∷ ds)) (sym e) (by_state (is_rise p inits (below + 1) ds) (init_at inits d) refl)
  where
    by_state : ((rise : Rise) → rise ≡ rise_on p inits (below + 1) ds Open → IsRise p inits (below + 1) ds rise) → (state : InitState) → init_at inits d ≡ state → IsRise p inits below (d ∷ ds) (rise_on p inits (below + 1) ds (above state below (option_map as_class (blocked p d))))
    by_state rest Not h = by_blocked p inits below d ds (rw h refl) rest (blocked p d) refl
    by_state rest Running h = begins_here p inits below d ds (rw h refl) (rw h refl)
    by_state rest Done h = begins_here p inits below d ds (rw h refl) (rw h refl)
    by_state rest Failed h = fails_here p inits below d ds (rw h refl) (rw h refl)

pub rise_is : (p : Program) (inits : List InitState) (class : ℕ) → IsRise p inits 0 (superclasses p class) (rise_of p inits class)
rise_is p inits class = is_rise p inits 0 (superclasses p class) (rise_of p inits class) refl

-- ---- so many classes from one upward

pub chain_is_first : (p : Program) (inits : List InitState) (most : ℕ) (class : Option ℕ) → chain_within p (length (begins_with inits (chain_within p most class))) class ≡ begins_with inits (chain_within p most class)
chain_is_first p inits zero class = refl
chain_is_first p inits (suc most) None = refl
chain_is_first p inits (suc most) (Some d) = cases (not_begun inits d) refl (chain_is_first p inits most (superclass_of p d))
  where
    rest : List ℕ
    rest = chain_within p most (superclass_of p d)

    cases : (b : Bool) → not_begun inits d ≡ b → chain_within p (length (begins_with inits rest)) (superclass_of p d) ≡ begins_with inits rest → chain_within p (length (begins_with inits (d ∷ rest))) (Some d) ≡ begins_with inits (d ∷ rest)
    cases true h more =
        let chain = begins_goes_on inits d rest h in
        ap (λ cs. chain_within p (length cs) (Some d)) chain ∙ ap (λ cs. d ∷ cs) more ∙ sym chain
    cases false h more = let chain = begins_stops inits d rest h in ap (λ cs. chain_within p (length cs) (Some d)) chain ∙ sym chain
