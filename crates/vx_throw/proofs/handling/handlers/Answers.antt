use Rattle.std.proofs.Common.{ap}
use Rattle.vx_cond.proofs.LiftingLaws.{IsCond-lifting}
use Rattle.vx_frame.specs.Frame.{part_of}
use Rattle.vx_throw.proofs.HandledLaws.{handlers_at}
use Rattle.vx_throw.proofs.Leaves.{each_answer}
use Rattle.vx_throw.specs.Landings.{handler_cmp, is_short_handler}
use Rattle.vx_throw.proofs.handling.handlers.Goals as goal

pub returns-clause-cond : goal.returns-clause-cond
returns-clause-cond g c = IsCond-lifting handler_cmp _ _ _ c.in_ok-handlers.handlers c.in_ok-handlers.ensures.ok

pub returns-clause-at : goal.returns-clause-at
returns-clause-at g c = handlers_at c.args.program.now _ _ c.args.heap.now c.args.flight.now (part_of c.top_frame-frame.result.now) _ c.in_ok-handlers.handlers (ap part_of c.top_frame-frame.ensures) (λ slot handler h. h.0) c.requires.objects c.in_ok-handlers.ensures.ok

pub returns-clause-short : goal.returns-clause-short
returns-clause-short g c = each_answer handler_cmp (g.met.S.Space.lawful c.map.new.space) _ is_short_handler _ c.in_ok-handlers.handlers (λ slot handler h. h.1) c.in_ok-handlers.ensures.ok
