use Rattle.std.proofs.Common.{◌<◌, arith, sym}
use Rattle.vx_explain.proofs.LeftOut.{out_earlier, out_part, top_is_not}
use Rattle.vx_explain.proofs.literals.leaves_out_part.Goals as goal

pub returns-then-literal-option : goal.returns-then-literal-option
returns-then-literal-option g c =
    let lawful = g.met.S.Space.lawful c.args.space.now in
    let less : c.args.literal.option < c.args.option = omega (arith, c.requires.earlier, c.if-literal-option.true) in
    λ told. out_earlier lawful c.args.id c.args.low c.args.high c.args.option c.args.literal c.requires.known (top_is_not lawful c.args.id c.args.low c.args.high c.args.option c.requires.top) c.requires.top less

pub returns-then-literal : goal.returns-then-literal
returns-then-literal g c = λ told. out_part (g.met.S.Space.lawful c.args.space.now) c.args.id c.args.high c.args.option _ c.args.literal c.if-literal-option.false c.if-literal.true c.requires.top.on (c.is_not_always.ensures told)

pub returns-else-literal : goal.returns-else-literal
returns-else-literal g c = λ told. out_part (g.met.S.Space.lawful c.args.space.now) c.args.id c.args.low c.args.option _ c.args.literal c.if-literal-option.false c.if-literal.false c.requires.top.off (c.is_not_always-else-literal.ensures told)
