-- Programs whose classes have names, and whose instructions name their classes by texts (JVMS 4.2.1, 4.4.1, 4.9.1).
use Rattle.std.specs.Prelude.{◌≡◌, Bool, List, None, Option, Some, [], false, nat_le, true, ℕ, ◌&&◌, ◌∷◌}
use Rattle.std.specs.List.{list_all}
use Rattle.vx_class.specs.declared.class_file.Code.{Code}
use Rattle.vx_pool.specs.Lookups.{entry_of}
use Rattle.vx_java.specs.Operation.{operation_of}
use Rattle.vx_java.specs.declared.operation.Operation.{Operation}
use Rattle.vx_java.specs.declared.operation.Operation.TheVariants.{CheckCast, GetField, GetStatic, InstanceOf, Invoke, New, NewGrid, NewReferences, PushEntry, PutField, PutStatic, Refuse}
use Rattle.vx_jump_targets.specs.Placed.{starts_in}
use Rattle.vx_link.specs.Names.{class_name, member, utf8}
use Rattle.vx_link.specs.Parts.{class_at}
use Rattle.vx_link.specs.declared.program.LinkedMethod.{LinkedMethod}
use Rattle.vx_link.specs.declared.program.Program.{Program}
use Rattle.vx_opcode.specs.Decode.{instruction_at}
use Rattle.vx_opcode.specs.declared.instruction.Instruction.{Instruction}
use Rattle.vx_pool.specs.declared.pool.Entry.{Entry}
use Rattle.vx_pool.specs.declared.pool.Entry.TheVariants as entry
use Rattle.vx_pool.specs.declared.pool.Pool.{Pool}

-- a text has a byte
abbrev pub is_given : List ℕ → Bool
is_given [] = false
is_given (b ∷ bytes) = true

-- what ldc loads: a class is named by a text
abbrev pub is_named_entry : Pool → Option Entry → Bool
is_named_entry pool (Some (entry.Class i)) = is_given (utf8 pool i)
is_named_entry pool _ = true

-- an operation names its class by a text, if it names one; what is left out is one of the first four kinds
abbrev pub is_named_operation : Pool → Operation → Bool
is_named_operation pool (PushEntry i) = is_named_entry pool (entry_of pool i)
is_named_operation pool (GetStatic i) = is_given (member pool i).class
is_named_operation pool (PutStatic i) = is_given (member pool i).class
is_named_operation pool (GetField i) = is_given (member pool i).class
is_named_operation pool (PutField i) = is_given (member pool i).class
is_named_operation pool (Invoke mode i) = is_given (member pool i).class
is_named_operation pool (New i) = is_given (class_name pool i)
is_named_operation pool (NewReferences i) = is_given (class_name pool i)
is_named_operation pool (NewGrid i dimensions) = is_given (class_name pool i)
is_named_operation pool (CheckCast i) = is_given (class_name pool i)
is_named_operation pool (InstanceOf i) = is_given (class_name pool i)
is_named_operation pool (Refuse word) = nat_le 1 word && nat_le word 4
is_named_operation pool _ = true

abbrev pub is_named_instruction : Pool → Option Instruction → Bool
is_named_instruction pool None = true
is_named_instruction pool (Some i) = is_named_operation pool (operation_of i)

-- the instructions of a code, by the pool of its class
abbrev pub is_named_code : Pool → Option Code → Bool
is_named_code pool None = true
is_named_code pool (Some code) = list_all (λ at. is_named_instruction pool (instruction_at code.bytes at)) (starts_in code)

abbrev pub is_named_method : Program → LinkedMethod → Bool
is_named_method p m = is_named_code (class_at p m.class.0).pool m.code

-- the classes of a program have names, and the instructions of its codes name their classes by texts
pub record IsNamed (p : Program) : Type 0 where
  pub classes : list_all (λ c. is_given c.name) p.classes ≡ true
  pub codes : list_all (is_named_method p) p.methods ≡ true
