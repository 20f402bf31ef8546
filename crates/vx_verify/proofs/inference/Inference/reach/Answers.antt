use Rattle.std.proofs.Common.{sym, ◌∙◌}
use Rattle.std.proofs.lemmas.Bool.{ltb-false, ltb-true}
use Rattle.std.proofs.lemmas.Result.{IfOk-weaker}
use Rattle.std.specs.Prelude.{length}
use Rattle.vx_verify.proofs.Joints.{outside_has_none, reach_through}
use Rattle.vx_verify.specs.States.{state_at}
use Rattle.vx_verify.proofs.inference.Inference.reach.Goals as goal

pub returns-then-not-is_inside : goal.returns-then-not-is_inside
returns-then-not-is_inside c =
    let s = c.args.subject.now in
    outside_has_none s c.args.position (state_at c.args.self.now.store s.frame c.args.state) c.requires.subject c.requires.forced
    (ltb-false c.args.position (length s.code.now.bytes) (sym c.is_inside.ensures ∙ c.if-not-is_inside.true))

pub join-requires-clause-position : goal.join-requires-clause-position
join-requires-clause-position c = ltb-true c.args.position (length c.args.subject.now.code.now.bytes) (sym c.is_inside.ensures ∙ c.if-not-is_inside.false)

pub returns-in-Unlike : goal.returns-in-Unlike
returns-in-Unlike c = rw c.in-Unlike.is at c.in_ok-joint.ensures

pub returns-in-Same : goal.returns-in-Same
returns-in-Same c = rw c.in-Same.is at c.in_ok-joint.ensures

pub raise-requires-clause-inference : goal.raise-requires-clause-inference
raise-requires-clause-inference c = let rises = rw c.in-Raised.is at c.in_ok-joint.ensures in rises.goes.inference

pub raise-requires-clause-position : goal.raise-requires-clause-position
raise-requires-clause-position c = ltb-true c.args.position (length c.args.subject.now.code.now.bytes) (sym c.is_inside.ensures ∙ c.if-not-is_inside.false)

pub raise-requires-clause-raising : goal.raise-requires-clause-raising
raise-requires-clause-raising c = let rises = rw c.in-Raised.is at c.in_ok-joint.ensures in rises.raising

pub returns-in-Raised : goal.returns-in-Raised
returns-in-Raised c =
    IfOk-weaker c.raise.result _ _
    (λ raised h. reach_through c.args.subject.now c.args.self.now _ _ c.args.position c.args.state c.in-Raised.made raised c.requires.subject (rw c.in-Raised.is at c.in_ok-joint.ensures) h)
    c.raise.ensures
