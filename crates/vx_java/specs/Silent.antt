-- Classes that give nothing, nor do those above them: a walk over superinterfaces passes over these.
use Rattle.std.specs.List.{list_all}
use Rattle.std.specs.Prelude.{Bool, List, None, Option, if◌then◌else◌, false, slice_set, true, ℕ, ◌∷◌, ◌≡◌}
use Rattle.vx_link.specs.Hierarchy.{interfaces_within}
use Rattle.vx_link.specs.Parts.{class_at}
use Rattle.vx_link.specs.Resolution.{first_given}
use Rattle.vx_link.specs.declared.program.Program.{Program}
use Rattle.vx_list.specs.Places.{item_or}
use Rattle.vx_value.specs.declared.ids.ClassId.{ClassId}

-- neither a class nor its superinterfaces give anything, down to any depth
abbrev pub IsSilent : (ℕ → Option ℕ) → Program → ℕ → Type 0
IsSilent f p c = (depth : ℕ) → first_given f (c ∷ interfaces_within p depth c) ≡ None

abbrev pub is_marked : List Bool → ClassId → Bool
is_marked marks c = item_or marks c.0 false

-- no class has a mark
abbrev pub AreUnmarked : List Bool → Type 0
AreUnmarked marks = (c : ℕ) → item_or marks c false ≡ false

-- each class with a mark is silent
abbrev pub AreSilent : (ℕ → Option ℕ) → Program → List Bool → Type 0
AreSilent f p marks = (c : ℕ) → item_or marks c false ≡ true → IsSilent f p c

-- the marks with that of a class, where all its direct superinterfaces have one
abbrev pub with_mark : Program → ClassId → List Bool → List Bool
with_mark p c marks = if list_all (is_marked marks) (class_at p c.0).interfaces then slice_set marks c.0 true else marks
