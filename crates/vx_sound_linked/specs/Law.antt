-- What a verdict rests on holds of programs that class files link to.
use Rattle.std.specs.Prelude.{false, ℕ, ◌≡◌}
use Rattle.vx_java.specs.Step.{Config, run}
use Rattle.vx_sound.specs.Sound.{HasGrids, HasNatives, IsSound}
use Rattle.vx_sound.specs.Typed.{is_illegal}
use Rattle.vx_sound_classes.specs.Law.{OfLinked}
use Rattle.vx_verify.specs.Verdict.{IsVerified}

-- an instruction that makes arrays with their parts has a length for one dimension at least, and for no more than its descriptor has
abbrev pub LinkedHaveGrids : Type 0
LinkedHaveGrids = OfLinked HasGrids

-- a native method has the form of its number, and stands in the class of its number or below it
abbrev pub LinkedHaveNatives : Type 0
LinkedHaveNatives = OfLinked HasNatives

-- a verdict can rest on the program
abbrev pub LinkedAreSound : Type 0
LinkedAreSound = OfLinked IsSound

-- no run of a program whose methods all have a typing ends as illegal, in any configuration and with any limit
abbrev pub LinkedNeverIllegal : Type 0
LinkedNeverIllegal = OfLinked (λ p. IsVerified p → (c : Config) (n : ℕ) → is_illegal (run p c n).end ≡ false)
