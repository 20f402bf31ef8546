-- Leaves: values with the conditions under which they hold.
use Rattle.std.specs.Prelude.{◌≡◌, ◌≢◌, ℕ, Bool, true, false, List, [], ◌∷◌, Option, Some, None, if◌then◌else◌, zero, suc, ◌⊎◌}
use Rattle.std.specs.Option.{option_or}
use Rattle.std.specs.declared.cmp.Ordering.{Ordering}
use Rattle.std.specs.declared.cmp.Ordering.TheVariants.{Less, Equal, Greater}
use Rattle.vx_space.specs.Sets.{Sets}
use Rattle.vx_cond.specs.declared.cond.Leaf.{Leaf}

-- the value of the first leaf whose condition holds the configuration
abbrev pub value_at : {T S I : Type 0} → Sets I → List (Leaf T S I) → List Bool → Option T
value_at sets [] c = None
value_at sets (leaf ∷ rest) c = if sets.test leaf.condition c then Some leaf.value else value_at sets rest c

-- the value is below each leaf's
abbrev pub IsBelow : {T S I : Type 0} → (T → T → Ordering) → T → List (Leaf T S I) → Type 0
IsBelow cmp value [] = Unit {0}
IsBelow cmp value (leaf ∷ rest) = (cmp value leaf.value ≡ Less) × IsBelow cmp value rest

-- each value is below those after it
abbrev pub AreAscending : {T S I : Type 0} → (T → T → Ordering) → List (Leaf T S I) → Type 0
AreAscending cmp [] = Unit {0}
AreAscending cmp (leaf ∷ rest) = IsBelow cmp leaf.value rest × AreAscending cmp rest

-- no configuration of the condition has a value among the leaves
pub record IsApart {T S I : Type 0} (sets : Sets I) (condition : I) (leaves : List (Leaf T S I)) : Type 0 where
  pub none : (c : List Bool) → sets.test condition c ≡ true → value_at sets leaves c ≡ None

-- a leaf beside the leaves after it
pub record IsFirstLeaf {T S I : Type 0} (cmp : T → T → Ordering) (sets : Sets I) (leaf : Leaf T S I) (rest : List (Leaf T S I)) : Type 0 where
  pub known : sets.is_known leaf.condition ≡ true
  pub nonempty : leaf.condition ≢ sets.never
  pub below : IsBelow cmp leaf.value rest
  pub apart : IsApart sets leaf.condition rest

-- values ascend, and conditions are known, nonempty and disjoint
abbrev pub AreLeaves : {T S I : Type 0} → (T → T → Ordering) → Sets I → List (Leaf T S I) → Type 0
AreLeaves cmp sets [] = Unit {0}
AreLeaves cmp sets (leaf ∷ rest) = IsFirstLeaf cmp sets leaf rest × AreLeaves cmp sets rest

-- where a value stands among ascending leaves: at place i, which has it already or where it is to be put
abbrev pub IsPlace : {T S I : Type 0} → (T → T → Ordering) → T → List (Leaf T S I) → ℕ → Bool → Type 0
IsPlace cmp value [] zero found = found ≡ false
IsPlace cmp value [] (suc i) found = ⊥
IsPlace cmp value (leaf ∷ rest) zero found = cmp leaf.value value ≡ (if found then Equal else Greater)
IsPlace cmp value (leaf ∷ rest) (suc i) found = (cmp leaf.value value ≡ Less) × IsPlace cmp value rest i found

-- they are leaves, and this is their value at each configuration
pub record AreLeavesOf {T S I : Type 0} (cmp : T → T → Ordering) (sets : Sets I) (value : List Bool → Option T) (leaves : List (Leaf T S I)) : Type 0 where
  pub are_leaves : AreLeaves cmp sets leaves
  pub values : (c : List Bool) → value_at sets leaves c ≡ value c

-- a value where a condition holds, else another
abbrev pub value_under : {T I : Type 0} → Sets I → I → T → (List Bool → Option T) → List Bool → Option T
value_under sets condition value other c = if sets.test condition c then Some value else other c

-- a value inside a condition, and none outside
abbrev pub value_within : {T I : Type 0} → Sets I → I → (List Bool → Option T) → List Bool → Option T
value_within sets condition value c = if sets.test condition c then value c else None

-- the first value where there is one, else the second
abbrev pub first_of : {T : Type 0} → (List Bool → Option T) → (List Bool → Option T) → List Bool → Option T
first_of first second c = option_or (first c) (second c)

-- no configuration has a value among both
pub record AreLeavesApart {T S I : Type 0} (sets : Sets I) (xs ys : List (Leaf T S I)) : Type 0 where
  pub none : (c : List Bool) → (value_at sets xs c ≡ None) ⊎ (value_at sets ys c ≡ None)

-- there is a lifted value just where there is a value, and R relates the two
abbrev pub IsLifted : {T U : Type 0} → (T → U → Type 0) → Option T → Option U → Type 0
IsLifted R None result = result ≡ None
IsLifted R (Some value) None = ⊥
IsLifted R (Some value) (Some result) = R value result

-- the same of two values
abbrev pub IsLifted2 : {T U V : Type 0} → (T → U → V → Type 0) → Option T → Option U → Option V → Type 0
IsLifted2 R None other result = result ≡ None
IsLifted2 R (Some value) other result = IsLifted (R value) other result

-- they are leaves, and their value at each configuration lifts another
pub record AreLifted {T U S I : Type 0} (cmp : U → U → Ordering) (sets : Sets I) (R : T → U → Type 0) (value : List Bool → Option T) (leaves : List (Leaf U S I)) : Type 0 where
  pub are_leaves : AreLeaves cmp sets leaves
  pub values : (c : List Bool) → IsLifted R (value c) (value_at sets leaves c)

pub record AreLifted2 {T U V S I : Type 0} (cmp : V → V → Ordering) (sets : Sets I) (R : T → U → V → Type 0) (first : List Bool → Option T) (second : List Bool → Option U) (leaves : List (Leaf V S I)) : Type 0 where
  pub are_leaves : AreLeaves cmp sets leaves
  pub values : (c : List Bool) → IsLifted2 R (first c) (second c) (value_at sets leaves c)

-- where a condition holds, the new value lifts another, and elsewhere it is the old one
pub record IsLiftedUnder {U V S I : Type 0} (cmp : V → V → Ordering) (old new : Sets I) (R : U → V → Type 0) (condition : I) (value : List Bool → Option U) (before after : List (Leaf V S I)) : Type 0 where
  pub are_leaves : AreLeaves cmp new after
  pub inside : (c : List Bool) → old.test condition c ≡ true → IsLifted R (value c) (value_at new after c)
  pub outside : (c : List Bool) → old.test condition c ≡ false → value_at new after c ≡ value_at old before c
