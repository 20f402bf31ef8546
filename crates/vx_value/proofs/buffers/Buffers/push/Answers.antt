use Rattle.vx_value.proofs.Spans.{Keeps-push}
use Rattle.vx_value.proofs.buffers.Buffers.push.Goals as goal

pub returns-clause-keeps : goal.returns-clause-keeps
returns-clause-keeps c = Keeps-push (λ buffer. buffer.items) c.self.inside.buffers.items c.args.self.now c.self.view_is c.push.new.self.items c.args.text c.in_ok-push.ensures.items
