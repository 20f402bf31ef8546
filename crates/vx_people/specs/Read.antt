-- The printed configuration is read as the configuration.
use Rattle.std.specs.Prelude.{◌≡◌, ℕ, Bool, List, length, Some}
use Rattle.vx_words.specs.Names.{AreOptionNames}
use Rattle.vx_configuration.specs.Configuration.{configuration_of}
use Rattle.vx_cover.specs.Text.{configuration_text}

-- the word of a configuration names it
abbrev pub ConfigurationsAreReadBack : Type 0
ConfigurationsAreReadBack = (names : List (List ℕ)) (c : List Bool) → AreOptionNames names → length c ≡ length names → configuration_of names (configuration_text names c) ≡ Some c
