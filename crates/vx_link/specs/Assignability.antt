-- Assignability of classes (JVMS 6.5 checkcast, instanceof, aastore).
use Rattle.std.specs.Prelude.{Bool, List, [], false, suc, true, zero, ℕ, ◌&&◌, ◌==◌, ◌||◌, ◌∷◌}
use Rattle.vx_link.specs.ClassNames.{component_of, core_class, has_reference_components, is_array, object_class}
use Rattle.vx_link.specs.Hierarchy.{is_among, superclasses, superinterfaces}
use Rattle.vx_link.specs.declared.program.Program.{Program}

-- a class to itself, its superclasses and all superinterfaces; every interface to Object
abbrev pub class_assignable : Program → (from to : ℕ) → Bool
class_assignable p from to = is_among to (superclasses p from) || is_among to (superinterfaces p from)

-- what every array is, beside its own type
abbrev pub above_arrays : Program → List ℕ
above_arrays p = object_class p ∷ core_class p "java/lang/Cloneable" ∷ core_class p "java/io/Serializable" ∷ []

-- an array of references to one whose component takes its component, down to a number of dimensions; an array of primitives only to its own type
abbrev pub assignable_within : Program → ℕ → (from to : ℕ) → Bool
assignable_within p zero from to = class_assignable p from to
assignable_within p (suc d) from to =
    elim (is_array p from) [
      | false ↦ class_assignable p from to
      | true ↦ elim (has_reference_components p from && has_reference_components p to) [
        | true ↦ assignable_within p d (component_of p from) (component_of p to)
        | false ↦ (from == to) || is_among to (above_arrays p)
      ]
    ]

-- a reference to an object of a class may stand where another class is wanted
abbrev pub assignable : Program → (from to : ℕ) → Bool
assignable p from to = assignable_within p 255 from to
