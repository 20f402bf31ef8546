-- The maximally-specific superinterface methods of a class, interface by interface.
use Rattle.std.specs.List.{list_any}
use Rattle.std.specs.Prelude.{Bool, List, None, Option, Some, if◌then◌else◌, is_some, not, option_and_then, ℕ, ◌&&◌, ◌==◌}
use Rattle.vx_java.specs.declared.methods.Among.{Among}
use Rattle.vx_java.specs.declared.methods.Among.TheVariants.{All, Inherited, Instance}
use Rattle.vx_link.specs.Hierarchy.{interfaces_below, is_among, superinterfaces}
use Rattle.vx_link.specs.Parts.{is_abstract, is_inherited, is_instance, method_at}
use Rattle.vx_link.specs.Resolution.{any_method, first_given, own_method}
use Rattle.vx_link.specs.declared.program.LinkedMethod.{LinkedMethod}
use Rattle.vx_link.specs.declared.program.Program.{Program}

-- a method of those that a search takes
abbrev pub passes : Among → LinkedMethod → Bool
passes All = any_method
passes Inherited = is_inherited
passes Instance = is_instance

-- the one number, where the test holds
abbrev pub number_if : Bool → ℕ → Option ℕ
number_if test n = if test then Some n else None

-- a superinterface below an interface declares the method too
abbrev pub overrides : Program → (name descriptor : List ℕ) → (interface below : ℕ) → Bool
overrides p name descriptor i j = is_some (own_method p is_inherited name descriptor j) && is_among i (interfaces_below p j)

abbrev pub is_overridden : Program → (name descriptor : List ℕ) → (class interface : ℕ) → Bool
is_overridden p name descriptor c i = list_any (overrides p name descriptor i) (superinterfaces p c)

-- the method of a superinterface, where it is maximally-specific and not abstract
abbrev pub specific_in : Program → (name descriptor : List ℕ) → (class interface : ℕ) → Option ℕ
specific_in p name descriptor c i =
    option_and_then
    (λ m. number_if (not (is_overridden p name descriptor c i) && not (is_abstract (method_at p m))) m)
    (own_method p is_inherited name descriptor i)

-- those that give something, and others than one that do
abbrev pub gives : (ℕ → Option ℕ) → ℕ → Bool
gives f i = is_some (f i)

abbrev pub gives_beside : (ℕ → Option ℕ) → (first other : ℕ) → Bool
gives_beside f i j = not (i == j) && is_some (f j)

-- the first that passes a test
abbrev pub first_of : (ℕ → Bool) → List ℕ → Option ℕ
first_of t xs = first_given (λ j. number_if (t j) j) xs
