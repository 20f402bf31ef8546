use Rattle.vx_lines.proofs.There.{never_faulty, source_there}
use Rattle.vx_lines.proofs.sources.read_source.Goals as goal

pub unreachable-requires : goal.unreachable-requires
unreachable-requires c =
    let there = source_there c.args.bytes.now c.args.class.now c.requires in
    let e = rw c.in-Err-Bad.field-0-is at c.in-Err-Bad.ensures in
    never_faulty _ _ _ there.read e
