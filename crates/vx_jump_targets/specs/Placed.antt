-- Code that leads from instruction to instruction: each jump and each handler is the place of one (JVMS 4.9.1).
use Rattle.std.specs.Prelude.{Bool, List, None, Option, Some, [], false, if◌then◌else◌, length, nat_lt, suc, true, zero, ℕ, ◌&&◌, ◌+◌, ◌∷◌}
use Rattle.std.specs.List.{list_all}
use Rattle.vx_class.specs.declared.class_file.Code.{Code}
use Rattle.vx_pool.specs.Checks.{all_hold}
use Rattle.vx_pool.specs.Instructions.{is_start, jump_checks}
use Rattle.vx_link.specs.declared.program.Program.{Program}
use Rattle.vx_opcode.specs.Decode.{instruction_at}
use Rattle.vx_opcode.specs.declared.instruction.Instruction.{Instruction}

-- what stands behind an instruction, if there is one
abbrev pub behind : Option Instruction → (ℕ → List ℕ) → List ℕ
behind None rest = []
behind (Some i) rest = rest i.length

-- the places from one on where instructions stand, one behind the other, at most so many
abbrev pub starts_from : List ℕ → ℕ → ℕ → List ℕ
starts_from code zero at = []
starts_from code (suc n) at = if nat_lt at (length code) then at ∷ behind (instruction_at code at) (λ len. starts_from code n (at + len)) else []

-- the places where the instructions of a code stand
abbrev pub starts_in : Code → List ℕ
starts_in code = starts_from code.bytes (length code.bytes) 0

abbrev pub meets_jumps : List ℕ → List ℕ → ℕ → Option Instruction → Bool
meets_jumps starts code at None = false
meets_jumps starts code at (Some i) = all_hold (jump_checks starts code at i.operand)

-- the jumps of the instruction at a place lead to instructions
abbrev pub jumps_lead : List ℕ → List ℕ → ℕ → Bool
jumps_lead starts code at = meets_jumps starts code at (instruction_at code at)

-- its jumps and its handlers are places where its instructions stand
abbrev pub leads_on : List ℕ → Code → Bool
leads_on starts code = list_all (jumps_lead starts code.bytes) starts && list_all (λ row. is_start starts row.handler) code.catches

abbrev pub is_well_placed : Code → Bool
is_well_placed code = leads_on (starts_in code) code

abbrev pub has_placed_code : Option Code → Bool
has_placed_code None = true
has_placed_code (Some code) = is_well_placed code

-- the codes of a program
abbrev pub are_well_placed : Program → Bool
are_well_placed p = list_all (λ m. has_placed_code m.code) p.methods
