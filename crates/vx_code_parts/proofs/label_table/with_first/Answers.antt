use Rattle.vx_code_parts.proofs.Firsts.{first_of-more}
use Rattle.vx_code_parts.proofs.label_table.with_first.Goals as goal

pub returns : goal.returns
returns c =
    first_of-more c.args.firsts c.insert.new.self c.in_ok-from_slice.field-0 c.args.name.now c.args.place c.contains_key.result
    c.contains_key.ensures c.if-contains_key.false c.in_ok-from_slice.ensures.items c.in_ok-insert.ensures.entries
