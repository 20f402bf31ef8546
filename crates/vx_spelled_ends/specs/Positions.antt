-- Where frames stand: at an instruction of their code, or where the code ends (JVMS 2.6, 4.9.1).
use Rattle.std.specs.Prelude.{Bool, None, Option, Some, length, true, ℕ, ◌&&◌, ◌==◌, ◌||◌}
use Rattle.std.specs.List.{list_all}
use Rattle.vx_class.specs.declared.class_file.Code.{Code}
use Rattle.vx_pool.specs.Instructions.{is_start}
use Rattle.vx_java.specs.Machine.{Frame, State}
use Rattle.vx_jump_targets.specs.Placed.{starts_in}
use Rattle.vx_link.specs.Parts.{method_at}
use Rattle.vx_link.specs.declared.program.Program.{Program}

abbrev pub is_position : Code → ℕ → Bool
is_position code at = is_start (starts_in code) at || at == length code.bytes

-- a method without code has no instruction to stand at
abbrev pub is_position_of : Option Code → ℕ → Bool
is_position_of None at = true
is_position_of (Some code) at = is_position code at

abbrev pub stands : Program → Frame → Bool
stands p f = is_position_of (method_at p f.method).code f.position

-- the frames of a state
abbrev pub all_stand : Program → State → Bool
all_stand p s = stands p s.top && list_all (stands p) s.callers
