-- What a space knows: ids, and the set of configurations for which each stands.
use Rattle.std.specs.Prelude.{◌≡◌, ℕ, ◌<◌, Bool, true, false, List, [], ◌∷◌, length, Contains}
use Rattle.vx_space.specs.Config.{AgreeBelow}
use Rattle.vx_space.specs.Under.{IsLeastOption, Under, fixed}

-- a set is a test of a configuration
pub record Sets (I : Type 0) : Type 0 where
  pub options : ℕ
  pub never : I
  pub always : I
  pub is_known : I → Bool
  pub test : I → List Bool → Bool
  -- whether `count` is the number of known sets
  pub counts : Bool
  pub count : ℕ
  -- `count` as it was directly after the last compaction
  pub base : ℕ

-- the id is known
abbrev pub IsKnown : {I : Type 0} → Sets I → I → Type 0
IsKnown sets id = sets.is_known id ≡ true

-- the id is known, and stands for this set
pub record IsSet {I : Type 0} (sets : Sets I) (id : I) (set : List Bool → Bool) : Type 0 where
  pub known : sets.is_known id ≡ true
  pub test : (c : List Bool) → sets.test id c ≡ set c

-- no id stands twice in the list
abbrev pub AreDistinct : {I : Type 0} → List I → Type 0
AreDistinct [] = Unit {0}
AreDistinct (id ∷ ids) = (¬ Contains ids id) × AreDistinct ids

-- n ids are known
pub record IsCount {I : Type 0} (sets : Sets I) (n : ℕ) : Type 0 where
  pub ids : List I
  pub number : length ids ≡ n
  pub distinct : AreDistinct ids
  pub known : (id : I) → Contains ids id → sets.is_known id ≡ true
  pub all : (id : I) → sets.is_known id ≡ true → Contains ids id

-- what holds of every space
pub record IsLawful {I : Type 0} (sets : Sets I) : Type 0 where
  pub at_most_64 : sets.options < 65
  pub never_known : sets.is_known sets.never ≡ true
  pub never_test : (c : List Bool) → sets.test sets.never c ≡ false
  pub always_known : sets.is_known sets.always ≡ true
  pub always_test : (c : List Bool) → sets.test sets.always c ≡ true
  pub equal_sets : (a b : I) → sets.is_known a ≡ true → sets.is_known b ≡ true → ((c : List Bool) → sets.test a c ≡ sets.test b c) → a ≡ b
  pub options_alone : (a : I) (c d : List Bool) → sets.is_known a ≡ true → AgreeBelow sets.options c d → sets.test a c ≡ sets.test a d
  pub counted : sets.counts ≡ true → IsCount sets sets.count

-- the later state extends the earlier one: earlier ids stay known, with the same sets
pub record Extends {I : Type 0} (old new : Sets I) : Type 0 where
  pub options : new.options ≡ old.options
  pub never : new.never ≡ old.never
  pub always : new.always ≡ old.always
  pub counts : new.counts ≡ old.counts
  pub base : new.base ≡ old.base
  pub known : (id : I) → old.is_known id ≡ true → new.is_known id ≡ true
  pub test : (id : I) (c : List Bool) → old.is_known id ≡ true → new.test id c ≡ old.test id c

-- the id is known in the later state, with the set that it had in the earlier one
pub record IsKept {I : Type 0} (old new : Sets I) (id : I) : Type 0 where
  pub known : new.is_known id ≡ true
  pub test : (c : List Bool) → new.test id c ≡ old.test id c

-- each id of the list is kept
abbrev pub AreKept : {I : Type 0} → Sets I → Sets I → List I → Type 0
AreKept old new [] = Unit {0}
AreKept old new (id ∷ ids) = IsKept old new id × AreKept old new ids

-- each id of the list is known
abbrev pub AreKnown : {I : Type 0} → Sets I → List I → Type 0
AreKnown sets [] = Unit {0}
AreKnown sets (id ∷ ids) = (sets.is_known id ≡ true) × AreKnown sets ids

-- i is the least option on which the set of an id depends, and low and high are the sets with it off and on
pub record IsTop {I : Type 0} (sets : Sets I) (id : I) (i : ℕ) (low high : I) : Type 0 where
  pub in_range : i < sets.options
  pub least : IsLeastOption (sets.test id) i
  pub off : IsSet sets low (fixed (sets.test id) i false)
  pub on : IsSet sets high (fixed (sets.test id) i true)

-- after a compaction: the roots, never and always keep their ids and their sets
pub record IsCompacted {I : Type 0} (old new : Sets I) (roots : List I) : Type 0 where
  pub options : new.options ≡ old.options
  pub never : new.never ≡ old.never
  pub always : new.always ≡ old.always
  pub counts : new.counts ≡ old.counts
  pub base : new.base ≡ new.count
  pub kept : AreKept old new roots

-- the known sets are just those under the roots
pub record IsJustUnder {I : Type 0} (new : Sets I) (roots : List (List Bool → Bool)) : Type 0 where
  pub sound : (id : I) → new.is_known id ≡ true → Under roots (new.test id)
  pub complete : (set : List Bool → Bool) → Under roots set → (id : I) × IsSet new id set
