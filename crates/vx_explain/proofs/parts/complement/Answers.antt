use Rattle.std.proofs.lemmas.Result.{IfOk-weaker}
use Rattle.vx_explain.proofs.Choosing.{complement_of}
use Rattle.vx_explain.proofs.parts.complement.Goals as goal

pub minus-requires-clause-first : goal.minus-requires-clause-first
minus-requires-clause-first g c = rw c.always-always.ensures (g.met.S.Space.lawful c.args.space.now).always_known

pub returns-clause-ok : goal.returns-clause-ok
returns-clause-ok g c = IfOk-weaker c.minus.result _ _ (λ id h. complement_of (g.met.S.Space.lawful c.args.space.now) c.args.set id h) (rw c.always-always.ensures at c.minus.ensures.ok)
