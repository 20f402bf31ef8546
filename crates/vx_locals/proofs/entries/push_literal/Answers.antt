use Rattle.std.proofs.lemmas.Result.{IfOk-weaker}
use Rattle.vx_locals.proofs.Loaded.{literal-gives}
use Rattle.vx_locals.proofs.Literals.{literal_held}
use Rattle.vx_locals.proofs.entries.push_literal.Goals as goal

pub returns-clause-gives : goal.returns-clause-gives
returns-clause-gives g c =
    let given = c.requires.given in
    let p = c.args.site.now.program.now in
    let heap = c.args.heap.now in
    IfOk-weaker c.push_constant.result _ _ (λ r pushed. literal-gives c.args.site.now _ heap c.args.group c.args.class.0 c.args.index _ given.is_for given.runs ((rw c.literal-literal.ensures at pushed) heap (λ d t. literal_held p (g.S.Space.sets c.args.space.now) heap c.args.class.0 c.args.index d given.is_for (given.runs.inside d t)))) c.push_constant.ensures.gives
