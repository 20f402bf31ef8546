-- Answers that push a value or end the run.
use Rattle.std.specs.Prelude.{Bool, true, false}
use Rattle.vx_group_states.specs.declared.answer.Answer.{Answer}
use Rattle.vx_group_states.specs.declared.answer.Answer.TheVariants.{Illegal, Push}

abbrev pub is_push : Answer → Bool
is_push Illegal = true
is_push (Push slot) = true
is_push _ = false
