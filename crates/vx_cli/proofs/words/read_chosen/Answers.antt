use Rattle.std.proofs.Common.{arith, refl, sym, ◌∙◌}
use Rattle.vx_cli.proofs.Spellings.{no_choice}
use Rattle.vx_cli.proofs.words.read_chosen.Goals as goal

pub returns-then-not-begins_with_digit : goal.returns-then-not-begins_with_digit
returns-then-not-begins_with_digit c = (sym c.begins_with_digit.ensures ∙ c.if-not-begins_with_digit.true, refl)

pub returns-in_err-count : goal.returns-in_err-count
returns-in_err-count c = rw c.from_residual.ensures (no_choice c.args.word.now (sym c.begins_with_digit.ensures ∙ c.if-not-begins_with_digit.false) c.in_err-count.ensures)
