use Rattle.std.proofs.Common.{ap, sym, ◌∙◌}
use Rattle.vx_java.specs.Returns.{bytes_of, instruction_size}
use Rattle.vx_opcode.specs.Decode.{instruction_at}
use Rattle.vx_java.proofs.InstructionSizes.{size_of_none}
use Rattle.vx_plain_tables.proofs.Short.{short_code}
use Rattle.vx_plain_calls.proofs.returning.size_at.Goals as goal

pub size_in-requires : goal.size_in-requires
size_in-requires c = short_code c.args.program.now c.args.frame.now.method.0 c.in-Some.code.now c.requires (sym c.in-Some.ensures)

pub returns-in-Some-clause-value : goal.returns-in-Some-clause-value
returns-in-Some-clause-value c = c.size_in.ensures.size ∙ ap (λ code. instruction_size (instruction_at (bytes_of code) c.args.frame.now.position)) c.in-Some.ensures

pub returns-in-None-clause-value : goal.returns-in-None-clause-value
returns-in-None-clause-value c = size_of_none c.args.frame.now.position ∙ ap (λ code. instruction_size (instruction_at (bytes_of code) c.args.frame.now.position)) c.in-None.ensures

pub returns-in-Some-clause-within : goal.returns-in-Some-clause-within
returns-in-Some-clause-within c = c.size_in.ensures.within
