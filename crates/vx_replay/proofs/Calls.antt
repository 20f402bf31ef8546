-- What a native method sees at its call.
use Rattle.std.proofs.Common.{◌≡◌, ℕ, ◌≤◌, length, refl, arith}
use Rattle.std.specs.Prelude.{None, Option, Some, unwrap_or}
use Rattle.vx_class.specs.declared.class_file.Code.{Code}
use Rattle.vx_java.specs.Machine.{State, current_class}
use Rattle.vx_java.specs.Natives.{carried_out, native, no_code}
use Rattle.vx_java.specs.Returns.{instruction_size}
use Rattle.vx_link.specs.Parts.{class_at, method_at}
use Rattle.vx_link.specs.declared.program.Program.{Program}
use Rattle.vx_opcode.specs.Decode.{instruction_at}
use Rattle.vx_plain_tables.proofs.Short.{short_code}
use Rattle.vx_plain_tables.specs.Tables.{IsShort}
use Rattle.vx_pool.specs.declared.pool.Pool.{Pool}

-- the code of a method, or none, is short
pub short_or_none : (p : Program) (m : ℕ) (code : Code) → IsShort p → code ≡ unwrap_or (method_at p m).code no_code → length code.bytes ≤ 65535
short_or_none p m code short is = by (method_at p m).code refl is
  where
    by : (o : Option Code) → (method_at p m).code ≡ o → code ≡ unwrap_or o no_code → length code.bytes ≤ 65535
    by None there e = rw e (omega arith)
    by (Some x) there e = rw e (short_code p m x short there)

pub at_call : (p : Program) (s : State) (m : ℕ) (code : Code) (pool : Pool) (class at size : ℕ) → code ≡ unwrap_or (method_at p s.top.method).code no_code → class ≡ current_class p s → pool ≡ (class_at p class).pool → at ≡ s.top.position
    → size ≡ instruction_size (instruction_at code.bytes at) → carried_out (record { program = p; state = s; code = code; pool = pool; size = size }) (method_at p m) ≡ native p s m
at_call p s m code pool class at size code_is class_is pool_is at_is size_is = rw (size_is, at_is, pool_is, class_is, code_is) refl
