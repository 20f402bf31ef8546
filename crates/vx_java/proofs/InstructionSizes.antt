-- The lengths of instructions that are read or are none.
use Rattle.std.proofs.Common.{◌≡◌, ℕ, [], arith, ap, refl}
use Rattle.std.proofs.lemmas.Bool.{le-ltb}
use Rattle.std.specs.Prelude.{Err, None, Ok, Option, Some, ok_or}
use Rattle.vx_java.specs.Returns.{instruction_size}
use Rattle.vx_opcode.specs.Decode.{instruction_at}
use Rattle.vx_opcode.specs.declared.instruction.DecodeFault.{DecodeFault}
use Rattle.vx_opcode.specs.declared.instruction.Instruction.{Instruction}

pub size_found : (o : Option Instruction) (i : Instruction) (fault : DecodeFault) → Ok i ≡ ok_or o fault → i.length ≡ instruction_size o
size_found None i fault e = cc e
size_found (Some j) i fault e = let same : i ≡ j = cc e in ap (λ (x : Instruction). x.length) same

pub size_missing : (o : Option Instruction) (found fault : DecodeFault) → Err found ≡ ok_or o fault → 0 ≡ instruction_size o
size_missing None found fault e = refl
size_missing (Some j) found fault e = cc e

-- in no code none stands
pub size_of_none : (position : ℕ) → 0 ≡ instruction_size (instruction_at [] position)
unfolding instruction_at
size_of_none position = rw (le-ltb position 0 (omega arith)) refl
