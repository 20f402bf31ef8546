use Rattle.std.proofs.Common.{ap, arith, ◌<◌, ◌^◌, ◌++◌, length}
use Rattle.std.proofs.lemmas.List.{length-append}
use Rattle.vx_value.specs.Texts.{text_at}
use Rattle.vx_value.proofs.Numbering.{put-distinct, put-extends, put-is, put-short}
use Rattle.vx_value.proofs.texts.TextTable.append.Goals as goal

pub invariant_of-self : goal.invariant_of-self
invariant_of-self c =
    let long = ap length c.text.ensures in
    let short = c.args.self.now.short c.args.number in
    let few : length (text_at c.args.self.now.texts c.args.number ++ c.args.units.now) < 2 ^ 31 = omega (arith, c.in_ok-within.ensures, long, short, length-append (text_at c.args.self.now.texts c.args.number) c.args.units.now) in
    record {
      distinct = put-distinct c.args.self.now.texts (text_at c.args.self.now.texts c.args.number ++ c.args.units.now) c.append.result c.append.new.self c.append.ensures.texts c.append.ensures.err c.args.self.now.distinct;
      short = put-short c.args.self.now.texts (text_at c.args.self.now.texts c.args.number ++ c.args.units.now) c.append.result c.append.new.self c.append.ensures.texts c.append.ensures.err few c.args.self.now.short;
    }

pub returns-clause-text : goal.returns-clause-text
returns-clause-text c = put-is c.args.self.now.texts (text_at c.args.self.now.texts c.args.number ++ c.args.units.now) c.append.result c.append.new.self c.append.ensures.number c.append.ensures.texts

pub returns-clause-extends : goal.returns-clause-extends
returns-clause-extends c = put-extends c.args.self.now.texts (text_at c.args.self.now.texts c.args.number ++ c.args.units.now) c.append.result c.append.new.self c.append.ensures.texts c.append.ensures.err
