-- Laws of conditional values of one leaf: its value stands at each configuration of the scope.
use Rattle.std.proofs.Common.{◌≡◌, Bool, true, false, List, [], ◌∷◌, refl, sym, ◌∙◌, ap}
use Rattle.std.specs.Prelude.{Option, Some, None, if◌then◌else◌, is_some, ◌&&◌, ◌||◌}
use Rattle.std.specs.Option.{option_or}
use Rattle.std.specs.declared.cmp.Ordering.{Ordering}
use Rattle.vx_space.specs.Sets.{Sets, Extends, IsSet}
use Rattle.vx_cond.specs.declared.cond.Leaf.{Leaf}
use Rattle.vx_cond.specs.Leaves.{value_at, value_within, first_of, IsLifted, IsLifted2, AreLifted, AreLifted2}
use Rattle.vx_cond.specs.Cond.{Conditional, cond_at, IsCond, IsCondOf, IsCondLifting, IsCondLifting2}
use Rattle.vx_cond.specs.Only.{IsOnly}

only_value : {T S I : Type 0} (sets : Sets I) (leaves : List (Leaf T S I)) (value : T) (c : List Bool) (b : Bool) → IsOnly value leaves → is_some (value_at sets leaves c) ≡ b → value_at sets leaves c ≡ (if b then Some value else None)
only_value sets [] value c b o h = absurd o
only_value sets (leaf ∷ []) value c b o h = cases (sets.test leaf.condition c) leaf.value value b o h
  where
    cases : {T : Type 0} (a : Bool) (v w : T) (b : Bool) → v ≡ w → is_some (if a then Some v else None) ≡ b → (if a then Some v else None) ≡ (if b then Some w else None)
    cases true v w true e h = ap Some e
    cases true v w false e h = cc
    cases false v w true e h = cc
    cases false v w false e h = refl
only_value sets (leaf ∷ other ∷ rest) value c b o h = absurd o

-- the value at a configuration
pub only_at : {T S I : Type 0} (cmp : T → T → Ordering) (sets : Sets I) (cond : Conditional T S I) (value : T) → IsCond cmp sets cond → IsOnly value cond.leaves → (c : List Bool) → cond_at sets cond c ≡ (if sets.test cond.scope c then Some value else None)
unfolding IsCond
only_at cmp sets cond value v o c = only_value sets cond.leaves value c (sets.test cond.scope c) o (v.covers c)

-- that value is what is inside a condition, of both sides, and of a function
pub IsCondOf-inside_only : {T S I : Type 0} (cmp : T → T → Ordering) {sets : Sets I} (cond made : Conditional T S I) (within scope : I) (value : T) → IsCond cmp sets cond → IsOnly value cond.leaves → IsSet sets scope (λ c. sets.test cond.scope c && sets.test within c) → IsCondOf cmp sets (value_within sets scope (λ _. Some value)) made → IsCondOf cmp sets (value_within sets within (cond_at sets cond)) made
unfolding IsCondOf
IsCondOf-inside_only cmp {sets = sets} cond made within scope value v o u m = record {
  is_cond = m.is_cond;
  at = λ c. m.at c ∙ rw (u.test c, only_at cmp sets cond value v o c) (cases (sets.test cond.scope c) (sets.test within c) value);
}
  where
    cases : {T : Type 0} (a b : Bool) (v : T) → (if (a && b) then Some v else None) ≡ (if b then (if a then Some v else None) else None)
    cases true true v = refl
    cases true false v = refl
    cases false true v = refl
    cases false false v = refl

pub IsCondOf-joined_only : {T S I : Type 0} (cmp : T → T → Ordering) {sets : Sets I} (a b made : Conditional T S I) (scope : I) (value : T) → IsCond cmp sets a → IsCond cmp sets b → IsOnly value a.leaves → IsOnly value b.leaves → IsSet sets scope (λ c. sets.test a.scope c || sets.test b.scope c) → IsCondOf cmp sets (value_within sets scope (λ _. Some value)) made → IsCondOf cmp sets (first_of (cond_at sets a) (cond_at sets b)) made
unfolding IsCondOf
IsCondOf-joined_only cmp {sets = sets} a b made scope value v w o p u m = record {
  is_cond = m.is_cond;
  at = λ c. m.at c ∙ rw (u.test c, only_at cmp sets a value v o c, only_at cmp sets b value w p c) (cases (sets.test a.scope c) (sets.test b.scope c) value);
}
  where
    cases : {T : Type 0} (a b : Bool) (v : T) → (if (a || b) then Some v else None) ≡ option_or (if a then Some v else None) (if b then Some v else None)
    cases true true v = refl
    cases true false v = refl
    cases false true v = refl
    cases false false v = refl

pub IsCondLifting-only : {T U S I : Type 0} (cmp : T → T → Ordering) (cmp_u : U → U → Ordering) (sets : Sets I) (R : T → U → Type 0) (cond : Conditional T S I) (value : T) (u : U) (made : Conditional U S I) → IsCond cmp sets cond → IsOnly value cond.leaves → R value u → IsCondOf cmp_u sets (value_within sets cond.scope (λ _. Some u)) made → IsCondLifting cmp_u sets R (cond_at sets cond) made
unfolding IsCondOf IsCondLifting
IsCondLifting-only {T = T} {U = U} cmp cmp_u sets R cond value u made v o r m = record {
  is_cond = m.is_cond;
  at = λ c. rw (only_at cmp sets cond value v o c, m.at c) (cases (sets.test cond.scope c));
}
  where
    cases : (b : Bool) → IsLifted R (if b then Some value else None) (if b then Some u else None)
    cases true = r
    cases false = refl

pub IsCondLifting2-only : {T U V S I : Type 0} (cmp : T → T → Ordering) (cmp_u : U → U → Ordering) (cmp_v : V → V → Ordering) (sets : Sets I) (R : T → U → V → Type 0) (a : Conditional T S I) (b : Conditional U S I) (x : T) (y : U) (z : V) (made : Conditional V S I) → IsCond cmp sets a → IsCond cmp_u sets b → a.scope ≡ b.scope → IsOnly x a.leaves → IsOnly y b.leaves → R x y z → IsCondOf cmp_v sets (value_within sets a.scope (λ _. Some z)) made → IsCondLifting2 cmp_v sets R (cond_at sets a) (cond_at sets b) made
unfolding IsCondOf IsCondLifting2
IsCondLifting2-only {T = T} {U = U} {V = V} cmp cmp_u cmp_v sets R a b x y z made v w e o p r m = record {
  is_cond = m.is_cond;
  at = λ c. rw (only_at cmp sets a x v o c, only_at cmp_u sets b y w p c, ← e, m.at c) (cases (sets.test a.scope c));
}
  where
    cases : (b : Bool) → IsLifted2 R (if b then Some x else None) (if b then Some y else None) (if b then Some z else None)
    cases true = r
    cases false = refl

-- a function's values, of leaves in any number
pub IsCondLifting-mapped : {T U S I : Type 0} (cmp : T → T → Ordering) (cmp_u : U → U → Ordering) {s0 s1 : Sets I} → Extends s0 s1 → (R : T → U → Type 0) (cond : Conditional T S I) (leaves : List (Leaf U S I)) → IsCond cmp s0 cond → AreLifted cmp_u s1 R (value_at s0 cond.leaves) leaves → IsCondLifting cmp_u s1 R (cond_at s0 cond) (record { scope = cond.scope; leaves = leaves })
unfolding IsCond IsCondLifting
IsCondLifting-mapped {T = T} {U = U} cmp cmp_u {s0 = s0} {s1 = s1} e R cond leaves v a = record {
  is_cond = record {
    scope_known = e.known cond.scope v.scope_known;
    are_leaves = a.are_leaves;
    covers = λ c. there (cond_at s0 cond c) (value_at s1 leaves c) (a.values c) ∙ v.covers c ∙ sym (e.test cond.scope c v.scope_known);
  };
  at = a.values;
}
  where
    there : (o : Option T) (r : Option U) → IsLifted R o r → is_some r ≡ is_some o
    there None r h = ap is_some h
    there (Some x) None h = absurd h
    there (Some x) (Some y) h = refl

pub IsCondLifting2-zipped : {T U V S I : Type 0} (cmp : T → T → Ordering) (cmp_u : U → U → Ordering) (cmp_v : V → V → Ordering) {s0 s1 : Sets I} → Extends s0 s1 → (R : T → U → V → Type 0) (a : Conditional T S I) (b : Conditional U S I) (leaves : List (Leaf V S I)) → IsCond cmp s0 a → IsCond cmp_u s0 b → a.scope ≡ b.scope → AreLifted2 cmp_v s1 R (value_at s0 a.leaves) (value_at s0 b.leaves) leaves → IsCondLifting2 cmp_v s1 R (cond_at s0 a) (cond_at s0 b) (record { scope = a.scope; leaves = leaves })
unfolding IsCond IsCondLifting2
IsCondLifting2-zipped {T = T} {U = U} {V = V} cmp cmp_u cmp_v {s0 = s0} {s1 = s1} e R a b leaves v w same l = record {
  is_cond = record {
    scope_known = e.known a.scope v.scope_known;
    are_leaves = l.are_leaves;
    covers = λ c. there (cond_at s0 a c) (cond_at s0 b c) (value_at s1 leaves c) (s0.test a.scope c) (v.covers c) (w.covers c ∙ ap (λ i. s0.test i c) (sym same)) (l.values c) ∙ sym (e.test a.scope c v.scope_known);
  };
  at = l.values;
}
  where
    there : (o : Option T) (q : Option U) (r : Option V) (d : Bool) → is_some o ≡ d → is_some q ≡ d → IsLifted2 R o q r → is_some r ≡ d
    there None q r d h k l = ap is_some l ∙ h
    there (Some x) None r d h k l = ap is_some l ∙ k
    there (Some x) (Some y) None d h k l = absurd l
    there (Some x) (Some y) (Some z) d h k l = h
