use Rattle.std.proofs.Common.{Some, sym}
use Rattle.vx_link.specs.Parts.{method_at}
use Rattle.vx_verify.proofs.ShortCodes.{is_short}
use Rattle.vx_verify.proofs.VerdictLaws.{no_code_typed, verdict_for}
use Rattle.vx_verify.proofs.verdict.is_method_typed.Goals as goal

pub is_typed-requires-clause-code : goal.is_typed-requires-clause-code
is_typed-requires-clause-code c = is_short c.args.program.now c.args.method.0 c.in-Some.code.now c.requires.codes (sym c.in-Some.ensures)

pub returns-in-Some : goal.returns-in-Some
returns-in-Some c =
    verdict_for c.args.program.now c.args.method.0 c.is_typed.result (Some c.in-Some.code.now) (method_at c.args.program.now c.args.method.0).code c.in-Some.ensures c.is_typed.ensures

pub returns-in-None : goal.returns-in-None
returns-in-None c = no_code_typed c.args.program.now c.args.method.0 (method_at c.args.program.now c.args.method.0).code c.in-None.ensures
