-- What two types have in common (JVMS 4.10.2.2, merging).
use Rattle.std.specs.Prelude.{None, Option, Some, find, if◌then◌else◌, min, option_map, true, ℕ, ◌==◌, ◌≡◌}
use Rattle.vx_java.specs.Ids.{as_class}
use Rattle.vx_link.specs.ClassNames.{object_class}
use Rattle.vx_link.specs.Hierarchy.{is_among, superclasses}
use Rattle.vx_link.specs.declared.program.Program.{Program}
use Rattle.vx_types.specs.Fits.{fits}
use Rattle.vx_types.specs.declared.types.ElementType.{ElementType}
use Rattle.vx_types.specs.declared.types.ElementType.TheVariants.{Class}
use Rattle.vx_types.specs.declared.types.VerType.{VerType}
use Rattle.vx_types.specs.declared.types.VerType.TheVariants.{Ref, Top}
use Rattle.vx_value.specs.declared.ids.ClassId.{ClassId}

-- the least type that both fit: it fits each type that both fit
pub record IsCommon (p : Program) (one other common : VerType) : Type 0 where
  pub above_one : fits p one common ≡ true
  pub above_other : fits p other common ≡ true
  pub least : (t : VerType) → fits p one t ≡ true → fits p other t ≡ true → fits p common t ≡ true

-- ---- how it is found

-- the first of a class and its superclasses that another class is or has above it
abbrev pub first_above : Program → (class other : ℕ) → Option ClassId
first_above p class other = option_map as_class (find (λ c. is_among c (superclasses p other)) (superclasses p class))

abbrev pub or_object : Program → Option ClassId → ElementType
or_object p None = Class (as_class (object_class p))
or_object p (Some c) = Class c

-- of two classes the first above both, else Object
abbrev pub common_element : Program → ElementType → ElementType → ElementType
common_element p (Class c) (Class d) = or_object p (first_above p c.0 d.0)
common_element p _ _ = or_object p None

-- of two references neither of which fits the other
abbrev pub common_ref : Program → ℕ → ElementType → ℕ → ElementType → VerType
common_ref p d e n f = if d == n then Ref d (common_element p e f) else Ref (min d n) (or_object p None)

abbrev pub common_apart : Program → VerType → VerType → VerType
common_apart p (Ref d e) (Ref n f) = common_ref p d e n f
common_apart p _ _ = Top
