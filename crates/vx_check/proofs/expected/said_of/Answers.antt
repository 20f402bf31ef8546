use Rattle.std.proofs.Common.{sym, ◌∙◌}
use Rattle.vx_check.proofs.Plain.{rest_plain}
use Rattle.vx_check.proofs.expected.said_of.Goals as goal

pub said_by_parts-requires-clause-plain : goal.said_by_parts-requires-clause-plain
said_by_parts-requires-clause-plain c = rest_plain c.args.line.now c.in-Some.first.now c.in-Some.rest.now (sym c.are_plain.ensures ∙ c.if-not-are_plain.false) c.in-Some.ensures.some
