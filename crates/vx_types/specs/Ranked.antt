-- What the types rest on: nothing is above itself, and nothing is above Object (JVMS 5.3.5).
use Rattle.std.specs.Prelude.{None, Some, length, true, ℕ, ◌<◌, ◌≡◌}
use Rattle.vx_link.specs.ClassNames.{object_class}
use Rattle.vx_link.specs.Hierarchy.{is_among, superclass_of, superclasses}
use Rattle.vx_link.specs.Parts.{class_count}
use Rattle.vx_link.specs.declared.program.Program.{Program}

-- a class is its own superclass here; what is above what is above a class is above it; the chain above another class is shorter
pub record IsRanked (p : Program) : Type 0 where
  pub itself : (c : ℕ) → is_among c (superclasses p c) ≡ true
  pub through : (b c d : ℕ) → is_among c (superclasses p b) ≡ true → is_among d (superclasses p c) ≡ true → is_among d (superclasses p b) ≡ true
  pub shorter : (c d : ℕ) → is_among d (superclasses p c) ≡ true → ¬ (d ≡ c) → length (superclasses p d) < length (superclasses p c)
  pub object : (c : ℕ) → is_among c (superclasses p (object_class p)) ≡ true → c ≡ object_class p

-- it is so where each class has a number above that of its superclass, below the number of classes, and Object has no superclass
pub record HasRanks (p : Program) : Type 0 where
  pub rank : ℕ → ℕ
  pub falls : (c d : ℕ) → superclass_of p c ≡ Some d → rank d < rank c
  pub few : (c : ℕ) → rank c < class_count p
  pub root : superclass_of p (object_class p) ≡ None
