-- A value that depends on the configuration.
use Rattle.std.specs.Prelude.{◌≡◌, Bool, true, false, List, ◌∷◌, map, Option, is_some}
use Rattle.std.specs.declared.cmp.Ordering.{Ordering}
use Rattle.vx_space.specs.Sets.{Sets}
use Rattle.vx_cond.specs.declared.cond.Leaf.{Leaf}
use Rattle.vx_cond.specs.Leaves.{value_at, AreLeaves, IsLifted, IsLifted2}

-- a `Cond` as contracts see it
pub record Conditional (T S I : Type 0) : Type 0 where
  pub scope : I
  pub leaves : List (Leaf T S I)

-- the value at a configuration, or none outside the scope
abbrev pub cond_at : {T S I : Type 0} → Sets I → Conditional T S I → List Bool → Option T
cond_at sets cond c = value_at sets cond.leaves c

-- the ids held
abbrev pub cond_ids : {T S I : Type 0} → Conditional T S I → List I
cond_ids cond = cond.scope ∷ map (λ leaf. leaf.condition) cond.leaves

-- over this space: values ascend, conditions are known, nonempty and disjoint, and their union is the scope
pub record CondFacts {T S I : Type 0} (cmp : T → T → Ordering) (sets : Sets I) (cond : Conditional T S I) : Type 0 where
  pub scope_known : sets.is_known cond.scope ≡ true
  pub are_leaves : AreLeaves cmp sets cond.leaves
  pub covers : (c : List Bool) → is_some (cond_at sets cond c) ≡ sets.test cond.scope c

-- the same, as a word that tactics don't take apart
unfoldable pub IsCond : {T S I : Type 0} → (T → T → Ordering) → Sets I → Conditional T S I → Type 0
IsCond cmp sets cond = CondFacts cmp sets cond

-- it is a Cond with this value at each configuration
pub record CondOfFacts {T S I : Type 0} (cmp : T → T → Ordering) (sets : Sets I) (value : List Bool → Option T) (cond : Conditional T S I) : Type 0 where
  pub is_cond : IsCond cmp sets cond
  pub at : (c : List Bool) → cond_at sets cond c ≡ value c

unfoldable pub IsCondOf : {T S I : Type 0} → (T → T → Ordering) → Sets I → (List Bool → Option T) → Conditional T S I → Type 0
IsCondOf cmp sets value cond = CondOfFacts cmp sets value cond

-- it is a Cond whose value at each configuration lifts R at another's
pub record CondLiftingFacts {T U S I : Type 0} (cmp : U → U → Ordering) (sets : Sets I) (R : T → U → Type 0) (value : List Bool → Option T) (cond : Conditional U S I) : Type 0 where
  pub is_cond : IsCond cmp sets cond
  pub at : (c : List Bool) → IsLifted R (value c) (cond_at sets cond c)

unfoldable pub IsCondLifting : {T U S I : Type 0} → (U → U → Ordering) → Sets I → (T → U → Type 0) → (List Bool → Option T) → Conditional U S I → Type 0
IsCondLifting cmp sets R value cond = CondLiftingFacts cmp sets R value cond

pub record CondLifting2Facts {T U V S I : Type 0} (cmp : V → V → Ordering) (sets : Sets I) (R : T → U → V → Type 0) (first : List Bool → Option T) (second : List Bool → Option U) (cond : Conditional V S I) : Type 0 where
  pub is_cond : IsCond cmp sets cond
  pub at : (c : List Bool) → IsLifted2 R (first c) (second c) (cond_at sets cond c)

unfoldable pub IsCondLifting2 : {T U V S I : Type 0} → (V → V → Ordering) → Sets I → (T → U → V → Type 0) → (List Bool → Option T) → (List Bool → Option U) → Conditional V S I → Type 0
IsCondLifting2 cmp sets R first second cond = CondLifting2Facts cmp sets R first second cond

-- no configuration is in both sets
pub record AreDisjoint {I : Type 0} (sets : Sets I) (a b : I) : Type 0 where
  pub apart : (c : List Bool) → sets.test a c ≡ true → sets.test b c ≡ false

-- each configuration of the first set is in the second
pub record IsInside {I : Type 0} (sets : Sets I) (a b : I) : Type 0 where
  pub inside : (c : List Bool) → sets.test a c ≡ true → sets.test b c ≡ true
