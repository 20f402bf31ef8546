use Rattle.vx_lines.proofs.There.{lines_counted, lines_there, never_bad}
use Rattle.vx_lines.proofs.reading.read_lines.Goals as goal

pub unreachable-requires : goal.unreachable-requires
unreachable-requires c =
    let there = lines_there c.args.bytes.now c.args.class.now c.requires in
    let e = rw c.in-Err-Bad.field-0-is at c.in-Err-Bad.ensures in
    never_bad _ _ _ there.read e

pub returns-in-Ok-clause-each : goal.returns-in-Ok-clause-each
returns-in-Ok-clause-each c = lines_counted c.in-Ok.methods c.args.bytes.now c.args.class.now c.requires c.in-Ok.ensures
