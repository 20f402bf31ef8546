-- Bounds on texts that native methods make (own).
use Rattle.std.specs.Prelude.{ℕ, List, if◌then◌else◌, length, nat_lt}
use Rattle.vx_java.specs.Machine.{length_bound}
use Rattle.vx_natives.specs.Deeds.{Deed, gives_text, raises, text_with}
use Rattle.vx_natives.specs.declared.effect.Exception.TheVariants.{Memory}
use Rattle.vx_strings.specs.Spelled.{Spelled}

-- a new string of a text that is not too long is given
abbrev pub gives_short : (texts : List (List ℕ)) → Spelled → Deed
gives_short texts s = if nat_lt length_bound (length (text_with texts s.start s.units)) then raises Memory else gives_text s.start s.units
