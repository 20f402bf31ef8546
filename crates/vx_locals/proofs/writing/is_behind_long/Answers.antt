use Rattle.std.proofs.Common.{sym, ◌∙◌, arith}
use Rattle.vx_locals.proofs.Rows.{half_none}
use Rattle.vx_locals.proofs.writing.is_behind_long.Goals as goal

pub returns-clause-none : goal.returns-clause-none
returns-clause-none g c = λ none sets d. half_none sets c.args.locals.now c.args.place c.get.result.now d (omega (arith, c.if-place-eq0.false)) c.get.ensures (sym c.holds_long.ensures ∙ none)
