-- Keys beside groups.
use Rattle.std.specs.Prelude.{◌≡◌, List, [], ◌∷◌}
use Rattle.vx_value.specs.declared.key.KeyPart.{KeyPart}
use Rattle.vx_group.specs.Group.{GroupView, key_of}

-- these are the keys of the first groups, in order
abbrev pub AreFirstKeys : {S I : Type 0} → List (List KeyPart) → List (GroupView S I) → Type 0
AreFirstKeys [] groups = Unit {0}
AreFirstKeys (key ∷ keys) [] = ⊥
AreFirstKeys (key ∷ keys) (group ∷ groups) = (key ≡ key_of group) × AreFirstKeys keys groups
