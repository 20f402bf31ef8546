use Rattle.std.proofs.Common.{◌∙◌, ap, arith, length, sym}
use Rattle.vx_value.proofs.Numbering.{text-past}
use Rattle.vx_value.specs.Texts.{text_at}
use Rattle.vx_natives.proofs.texts.text_of.Goals as goal

pub returns-then-number-count-clause-units : goal.returns-then-number-count-clause-units
returns-then-number-count-clause-units g c = c.text.ensures ∙ ap (λ texts. text_at texts c.args.number) c.texts-texts.ensures

pub returns-then-number-count-clause-short : goal.returns-then-number-count-clause-short
returns-then-number-count-clause-short g c = rw c.text.ensures (c.texts-texts.result.now.short c.args.number)

pub returns-else-number-count-clause-units : goal.returns-else-number-count-clause-units
returns-else-number-count-clause-units g c = sym (text-past c.args.heap.now.texts c.args.number (omega (arith, c.if-number-count.false, c.len-count.ensures.len, ap length c.texts-texts.ensures)))
