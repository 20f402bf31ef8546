-- Positions of a code: its start, the one behind an instruction, and those of its handlers.
use Rattle.std.proofs.Common.{List, None, Option, Some, [], arith, length, refl, subst, true, ℕ, ◌+◌, ◌∷◌, ◌≡◌}
use Rattle.std.proofs.lemmas.Bool.{or_left}
use Rattle.std.specs.Prelude.{◌==◌, ◌||◌}
use Rattle.vx_class.specs.declared.class_file.Code.{Code}
use Rattle.vx_java.specs.Returns.{bytes_of, instruction_size}
use Rattle.vx_java.specs.Selection.{catches_of, handler_in}
use Rattle.vx_jump_targets.specs.Placed.{has_placed_code, starts_from, starts_in}
use Rattle.vx_kept_facts.proofs.Places.{first_start, handler_start, place_behind}
use Rattle.vx_kept_facts.proofs.Rows.{begins_there}
use Rattle.vx_link.specs.declared.program.Program.{Program}
use Rattle.vx_opcode.specs.Decode.{instruction_at}
use Rattle.vx_opcode.specs.declared.instruction.Instruction.{Instruction}
use Rattle.vx_pool.specs.Instructions.{is_start}
use Rattle.vx_pool.specs.declared.pool.Pool.{Pool}
use Rattle.vx_spelled_ends.specs.Positions.{is_position_of}

-- the start of all codes
pub first_position : (code : Option Code) → is_position_of code 0 ≡ true
first_position None = refl
first_position (Some code) = by_bytes code.bytes
  where
    by_bytes : (bytes : List ℕ) → (is_start (starts_from bytes (length bytes) 0) 0 || 0 == length bytes) ≡ true
    by_bytes [] = refl
    by_bytes (b ∷ bytes) = or_left _ _ (first_start (b ∷ bytes) (length (b ∷ bytes)) 0 (omega arith) (omega arith))

-- where an instruction begins
pub start_position : (code : Code) (at : ℕ) → is_start (starts_in code) at ≡ true → is_position_of (Some code) at ≡ true
start_position code at start = or_left (is_start (starts_in code) at) (at == length code.bytes) start

-- a frame that moves past its call
pub resumed_position : (code : Option Code) (at : ℕ) → is_position_of code at ≡ true → is_position_of code (at + instruction_size (instruction_at (bytes_of code) at)) ≡ true
resumed_position None at stand = refl
resumed_position (Some code) at stand = by (instruction_at code.bytes at) refl
  where
    by : (i : Option Instruction) → instruction_at code.bytes at ≡ i → is_position_of (Some code) (at + instruction_size i) ≡ true
    by None found =
        let same : at ≡ at + 0 = omega arith in
        subst (λ (k : ℕ). is_position_of (Some code) k ≡ true) same stand
    by (Some i) found = place_behind code at i found (begins_there code at i found stand)

-- what handles an exception in a well placed code
pub handler_position : (p : Program) (pool : Pool) (code : Option Code) (position thrown handler : ℕ) → has_placed_code code ≡ true
    → handler_in p pool (catches_of code) position thrown ≡ Some handler → is_position_of code handler ≡ true
handler_position p pool None position thrown handler placed found = refl
handler_position p pool (Some code) position thrown handler placed found =
    start_position code handler (handler_start p pool code position thrown handler placed found)
