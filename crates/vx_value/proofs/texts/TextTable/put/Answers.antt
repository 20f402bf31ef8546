use Rattle.std.proofs.Common.{arith}
use Rattle.vx_value.proofs.Numbering.{put-distinct, put-extends, put-is, put-short}
use Rattle.vx_value.proofs.texts.TextTable.put.Goals as goal

pub invariant_of-self : goal.invariant_of-self
invariant_of-self c =
    record {
      distinct = put-distinct c.args.self.now.texts c.args.units.now c.put.result c.put.new.self c.put.ensures.texts c.put.ensures.err c.args.self.now.distinct;
      short = put-short c.args.self.now.texts c.args.units.now c.put.result c.put.new.self c.put.ensures.texts c.put.ensures.err (omega (arith, c.in_ok-within.ensures)) c.args.self.now.short;
    }

pub returns-clause-text : goal.returns-clause-text
returns-clause-text c = put-is c.args.self.now.texts c.args.units.now c.put.result c.put.new.self c.put.ensures.number c.put.ensures.texts

pub returns-clause-extends : goal.returns-clause-extends
returns-clause-extends c = put-extends c.args.self.now.texts c.args.units.now c.put.result c.put.new.self c.put.ensures.texts c.put.ensures.err
