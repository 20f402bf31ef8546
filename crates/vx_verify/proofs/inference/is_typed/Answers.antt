use Rattle.std.proofs.Common.{sym, ◌∙◌}
use Rattle.vx_verify.proofs.Sweeps.{empty_untyped}
use Rattle.vx_verify.proofs.inference.is_typed.Goals as goal

pub returns-then-len-eq0 : goal.returns-then-len-eq0
returns-then-len-eq0 c = empty_untyped c.args.program.now c.requires.ranked c.args.method.0 c.args.code.now (sym c.len.ensures ∙ c.if-len-eq0.true)
