use Rattle.std.proofs.lemmas.Result.{IfOk-weaker}
use Rattle.vx_bdd.specs.declared.node.Op.TheVariants.{And, Minus, Or}
use Rattle.vx_bdd.proofs.ApplyLaws.{AreRight-later}
use Rattle.vx_bdd.proofs.SpaceLaws.{Extends-grows, IsSet-answer}
use Rattle.vx_bdd.proofs.space.BddSpaceSpace.minus.Goals as goal

pub returns-clause-extends : goal.returns-clause-extends
returns-clause-extends c = Extends-grows c.args.self.now.base _ c.args.self.now.table.reduced c.apply.ensures.grows c.apply.ensures.options

pub returns-clause-ok : goal.returns-clause-ok
returns-clause-ok c = IfOk-weaker c.apply.result _ _ (λ id h. IsSet-answer Minus c.args.self.now.base _ c.args.a c.args.b id c.args.self.now.table.reduced c.apply.ensures.grows c.apply.ensures.options c.requires.first c.requires.second h) c.apply.ensures.ok

pub invariant_of-self : goal.invariant_of-self
invariant_of-self c = record {
  ands_right = AreRight-later And _ c.args.self.now.table.reduced c.apply.ensures.grows c.apply.ensures.options _ c.args.self.now.ands_right;
  ors_right = AreRight-later Or _ c.args.self.now.table.reduced c.apply.ensures.grows c.apply.ensures.options _ c.args.self.now.ors_right;
  minuses_right = c.apply.ensures.right;
}
