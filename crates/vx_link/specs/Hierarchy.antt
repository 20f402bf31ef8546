-- Superclasses and superinterfaces (JVMS 4.1, 5.3.5).
use Rattle.std.specs.List.{list_any}
use Rattle.std.specs.Prelude.{Bool, List, None, Option, Some, [], flat_map, map, nat_eq, not, option_map, suc, zero, ℕ, ◌&&◌, ◌==◌, ◌∷◌}
use Rattle.vx_link.specs.Parts.{class_at, class_count}
use Rattle.vx_link.specs.declared.program.Program.{Program}

abbrev pub superclass_of : Program → ℕ → Option ℕ
superclass_of p c = option_map (λ s. s.0) (class_at p c).superclass

abbrev pub interfaces_of : Program → ℕ → List ℕ
interfaces_of p c = map (λ i. i.0) (class_at p c).interfaces

-- a class and its superclasses upward, at most so many of them
abbrev pub chain_within : Program → ℕ → Option ℕ → List ℕ
chain_within p zero c = []
chain_within p (suc n) None = []
chain_within p (suc n) (Some c) = c ∷ chain_within p n (superclass_of p c)

-- a class and its superclasses upward; an interface and Object
abbrev pub superclasses : Program → ℕ → List ℕ
superclasses p c = chain_within p (class_count p) (Some c)

-- the direct superinterfaces in file order, each directly followed by its own in the same way, down to a depth
abbrev pub interfaces_within : Program → ℕ → ℕ → List ℕ
interfaces_within p zero c = []
interfaces_within p (suc n) c = flat_map (λ i. i ∷ interfaces_within p n i) (interfaces_of p c)

abbrev pub interfaces_below : Program → ℕ → List ℕ
interfaces_below p c = interfaces_within p (class_count p) c

-- all superinterfaces: those of the class first, and then those of each superclass upward
abbrev pub superinterfaces : Program → ℕ → List ℕ
superinterfaces p c = flat_map (interfaces_below p) (superclasses p c)

abbrev pub is_among : ℕ → List ℕ → Bool
is_among n xs = list_any (nat_eq n) xs

-- one class is a superclass of another, and not the same
abbrev pub is_proper_superclass : Program → (above class : ℕ) → Bool
is_proper_superclass p above c = is_among above (superclasses p c) && not (above == c)
