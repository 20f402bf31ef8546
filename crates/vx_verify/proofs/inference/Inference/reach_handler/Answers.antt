use Rattle.std.proofs.lemmas.Result.{IfOk-weaker}
use Rattle.vx_verify.proofs.Steps.{handler_forced, handler_reached, handler_stands}
use Rattle.vx_verify.proofs.inference.Inference.reach_handler.Goals as goal

pub reach-requires-clause-stands : goal.reach-requires-clause-stands
reach-requires-clause-stands c = handler_stands c.args.subject.now c.args.self.now c.args.row c.args.operands c.args.before c.requires.stands c.requires.caught

pub reach-requires-clause-forced : goal.reach-requires-clause-forced
reach-requires-clause-forced c =
    rw c.from.ensures (handler_forced c.args.subject.now c.args.self.now c.args.row c.args.operands c.args.before c.requires.caught c.requires.forced)

pub returns : goal.returns
returns c =
    IfOk-weaker c.reach.result _ _
    (λ reached h. handler_reached c.args.subject.now c.args.self.now c.reach.new.self c.args.row c.args.operands c.args.before reached c.requires.caught h)
    (rw c.from.ensures at c.reach.ensures)
