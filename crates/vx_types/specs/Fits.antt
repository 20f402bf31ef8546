-- Which type fits which, so that a value of the one may stand where the other is wanted (JVMS 4.10.1.2).
use Rattle.std.specs.Prelude.{Bool, List, [], bytes_eq, false, if◌then◌else◌, nat_lt, true, ℕ, ◌&&◌, ◌==◌, ◌||◌, ◌∷◌, ◌≡◌}
use Rattle.vx_link.specs.ClassNames.{object_class, primitive_element}
use Rattle.vx_link.specs.Hierarchy.{is_among, superclasses}
use Rattle.vx_link.specs.declared.program.Program.{Program}
use Rattle.vx_types.specs.Types.{VerState}
use Rattle.vx_types.specs.declared.types.ElementType.{ElementType}
use Rattle.vx_types.specs.declared.types.ElementType.TheVariants.{Class, Missing, Primitives}
use Rattle.vx_types.specs.declared.types.VerType.{VerType}
use Rattle.vx_types.specs.declared.types.VerType.TheVariants.{Int, Long, Null, Ref, Top}

abbrev pub is_object : Program → ElementType → Bool
is_object p (Class c) = c.0 == object_class p
is_object p _ = false

-- a class fits its superclasses; a class that isn't there, and an array of a primitive type, fit themselves
abbrev pub is_below : Program → ElementType → ElementType → Bool
is_below p (Class c) (Class d) = is_among d.0 (superclasses p c.0)
is_below p (Missing name) (Missing other) = bytes_eq name other
is_below p (Primitives b) (Primitives c) = primitive_element b == primitive_element c
is_below p _ _ = false

-- and all fit Object
abbrev pub element_fits : Program → ElementType → ElementType → Bool
element_fits p e f = is_object p f || is_below p e f

-- arrays of as many dimensions fit by their elements; what has more dimensions fits arrays of Object, and Object
abbrev pub ref_fits : Program → ℕ → ElementType → ℕ → ElementType → Bool
ref_fits p d e n f = if d == n then element_fits p e f else (nat_lt n d && is_object p f)

abbrev pub fits : Program → VerType → VerType → Bool
fits p t Top = true
fits p Int Int = true
fits p Long Long = true
fits p Null Null = true
fits p Null (Ref n f) = true
fits p (Ref d e) (Ref n f) = ref_fits p d e n f
fits p _ _ = false

-- one type after the other, and equally many
abbrev pub all_fit : Program → List VerType → List VerType → Bool
all_fit p [] [] = true
all_fit p (t ∷ ts) (u ∷ us) = fits p t u && all_fit p ts us
all_fit p _ _ = false

-- a state fits another by its local variables and its operands
pub record StateFits (p : Program) (s t : VerState) : Type 0 where
  pub locals : all_fit p s.locals t.locals ≡ true
  pub operands : all_fit p s.operands t.operands ≡ true
