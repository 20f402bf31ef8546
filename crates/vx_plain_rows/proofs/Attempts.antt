-- The row of an attempt, from what stands at the position of the frame on top.
use Rattle.std.proofs.Common.{◌≡◌, ℕ, ◌+◌, ◌<◌, ◌≤◌, arith, List, refl, sym, ap, ◌∙◌}
use Rattle.std.specs.Prelude.{Err, None, Ok, Option, Result, Some, ok_or}
use Rattle.vx_class.specs.declared.class_file.Code.{Code}
use Rattle.vx_java.specs.Machine.{State, current_class, illegal_in}
use Rattle.vx_java.specs.Operation.{operation_of}
use Rattle.vx_java.specs.Row.{row_at, row_if, row_in, row_of}
use Rattle.vx_java.specs.declared.operation.Operation.{Operation}
use Rattle.vx_link.specs.Parts.{class_at}
use Rattle.vx_link.specs.declared.program.Program.{Program}
use Rattle.vx_opcode.specs.Decode.{instruction_at}
use Rattle.vx_opcode.specs.declared.instruction.Instruction.{Instruction}
use Rattle.vx_pool.specs.declared.pool.Pool.{Pool}

pub row_seen : (p : Program) (s : State) (code : Code) (i : Instruction) (pool : Pool) (class : ℕ) (does : Operation) → class ≡ current_class p s → pool ≡ (class_at p class).pool → does ≡ operation_of i
    → row_of (record { program = p; state = s; code = code; pool = pool; size = i.length }) does s.top.operands ≡ row_at p s code i
row_seen p s code i pool class does class_is pool_is does_is = rw (pool_is, class_is, does_is) refl

there : {E : Type 0} (o : Option Instruction) (i : Instruction) (fault : E) → Ok i ≡ ok_or o fault → Some i ≡ o
there None i fault e = cc
there (Some other) i fault e = cc

missing : {E : Type 0} (o : Option Instruction) (found fault : E) → Err found ≡ ok_or o fault → None ≡ o
missing None found fault e = refl
missing (Some other) found fault e = cc

pub row_there : {E : Type 0} (p : Program) (s : State) (code : Code) (i : Instruction) (bytes : List ℕ) (at : ℕ) (fault : E) → bytes ≡ code.bytes → at ≡ s.top.position → Ok i ≡ ok_or (instruction_at bytes at) fault → row_at p s code i ≡ row_in p s (Some code)
row_there p s code i bytes at fault bytes_are at_is e = ap (row_if p s code) (there (instruction_at bytes at) i fault e ∙ (λ k. instruction_at (bytes_are k) (at_is k)))

pub row_missing : {E : Type 0} (p : Program) (s : State) (code : Code) (bytes : List ℕ) (at : ℕ) (found fault : E) → bytes ≡ code.bytes → at ≡ s.top.position → Err found ≡ ok_or (instruction_at bytes at) fault → illegal_in p s ≡ row_in p s (Some code)
row_missing p s code bytes at found fault bytes_are at_is e = ap (row_if p s code) (missing (instruction_at bytes at) found fault e ∙ (λ k. instruction_at (bytes_are k) (at_is k)))

-- an instruction stands in the code
pub in_code : (told at size bytes : ℕ) → told ≡ at → 0 < size → told + size ≤ bytes → bytes ≤ 65535 → at < 65536
in_code told at size bytes is some inside few = omega (arith, is, some, inside, few)
