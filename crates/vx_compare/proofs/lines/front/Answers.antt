use Rattle.std.proofs.Common.{sym}
use Rattle.std.proofs.lemmas.List.{take_all}
use Rattle.vx_compare.proofs.lines.front.Goals as goal

pub returns-then-line-le-SHOWN : goal.returns-then-line-le-SHOWN
returns-then-line-le-SHOWN c = sym (take_all 60 c.args.line.now c.if-line-le-SHOWN.true)
