-- What is written of a program's verdict.
use Rattle.std.specs.Prelude.{List, codes, false, ℕ, ◌++◌, ◌≡◌}
use Rattle.vx_java.specs.Machine.{method_text}
use Rattle.vx_java.specs.Step.{Config, run}
use Rattle.vx_link.specs.Parts.{method_at}
use Rattle.vx_link.specs.declared.program.Program.{Program}
use Rattle.vx_sound.specs.Typed.{is_illegal}
use Rattle.vx_value.specs.Words.{word_of}
use Rattle.vx_verify.specs.Verdict.{IsVerdict}
use Rattle.vx_verify.specs.declared.verdict.Verdict.{Verdict}
use Rattle.vx_verify.specs.declared.verdict.Verdict.TheVariants.{No, Yes}

-- what is written where each method has a typing
abbrev pub VERIFIED : List ℕ
VERIFIED = codes "verified\n"

-- the first method that has no typing, by its class, its name and its descriptor
abbrev pub refused_text : Program → (method : ℕ) → List ℕ
refused_text p m = codes "refused " ++ word_of (method_text p (method_at p m)) ++ codes "\n"

abbrev pub verdict_text : Program → Verdict → List ℕ
verdict_text p Yes = VERIFIED
verdict_text p (No m) = refused_text p m.0

-- a text is that of the verdict over a program
abbrev pub IsVerdictText : Program → List ℕ → Type 0
IsVerdictText p text = (verdict : Verdict) × IsVerdict p verdict × (text ≡ verdict_text p verdict)

-- where a text says `verified`, no run of the program, in any configuration and with any limit, ends as illegal
abbrev pub IsSoundText : Program → List ℕ → Type 0
IsSoundText p text = text ≡ VERIFIED → (c : Config) (n : ℕ) → is_illegal (run p c n).end ≡ false
