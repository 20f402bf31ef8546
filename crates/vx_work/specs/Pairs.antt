-- Pairs of known sets.
use Rattle.std.specs.Prelude.{◌≡◌, true}
use Rattle.vx_space.specs.Sets.{Sets}

abbrev pub AreBothKnown : {I : Type 0} → Sets I → I × I → Type 0
AreBothKnown sets pair = (sets.is_known pair.0 ≡ true) × (sets.is_known pair.1 ≡ true)
