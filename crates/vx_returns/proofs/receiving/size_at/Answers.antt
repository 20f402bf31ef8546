use Rattle.std.proofs.Common.{◌∙◌, ap}
use Rattle.vx_java.specs.Returns.{bytes_of, instruction_size}
use Rattle.vx_opcode.specs.Decode.{instruction_at}
use Rattle.vx_java.proofs.InstructionSizes.{size_of_none}
use Rattle.vx_returns.proofs.ReturnLaws.{short_code}
use Rattle.vx_returns.proofs.receiving.size_at.Goals as goal

pub size_in-requires : goal.size_in-requires
size_in-requires c = short_code c.args.program.now c.args.place.method.0 c.in-Some.code.now c.requires c.in-Some.ensures

pub returns-in-None-clause-size : goal.returns-in-None-clause-size
returns-in-None-clause-size c = size_of_none c.args.place.position ∙ ap (λ code. instruction_size (instruction_at (bytes_of code) c.args.place.position)) c.in-None.ensures
