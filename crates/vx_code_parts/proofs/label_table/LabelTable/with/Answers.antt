use Rattle.vx_code_parts.proofs.Firsts.{AreFirst-more}
use Rattle.vx_code_parts.proofs.label_table.LabelTable.with.Goals as goal

pub invariant_of-result : goal.invariant_of-result
invariant_of-result c =
    AreFirst-more c.self.inside.labels c.in_ok-labels.labels c.self.inside.firsts c.in_ok-firsts.firsts c.args.label c.bytes.result.now c.len.result
    c.self.invariant c.in_ok-labels.ensures c.bytes.ensures c.len.ensures c.in_ok-firsts.ensures
