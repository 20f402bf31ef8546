use Rattle.std.proofs.Common.{false, true}
use Rattle.vx_verify.proofs.Sweeps.{none_typed, some_swept, unmarked_typed}
use Rattle.vx_verify.proofs.inference.is_inferred.Goals as goal

pub returns-in_default : goal.returns-in_default
returns-in_default c = none_typed c.args.subject.now (rw c.in_default.is at c.in_ok-swept.ensures.swept)

pub returns-then-not-found : goal.returns-then-not-found
returns-then-not-found c =
    unmarked_typed c.args.subject.now c.sweep.new.self
    (some_swept c.args.subject.now c.sweep.new.self c.in_ok-swept.swept c.in-Some.found false c.in-Some.is c.if-not-found.true c.in_ok-swept.ensures.swept)

pub loop-sweep-preserved : goal.loop-sweep-preserved
loop-sweep-preserved c = (some_swept c.args.subject.now c.sweep.new.self c.in_ok-swept.swept c.in-Some.found true c.in-Some.is c.if-not-found.false c.in_ok-swept.ensures.swept, c.in_ok-swept.ensures.rows)
