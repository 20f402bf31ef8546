use Rattle.std.proofs.Common.{refl}
use Rattle.vx_report_reader.proofs.More.{falls_nil, walk_nil}
use Rattle.vx_report_reader.proofs.stage.with_rounds.Goals as goal

pub returns : goal.returns
returns c = record {
  may = tt;
  says = rw (c.empty_table.ensures.nodes, c.new.ensures.items, c.new-2.ensures.items, c.new-3.ensures.items) refl;
  sound = record {
    known = c.empty_table.ensures.known;
    falls = rw c.empty_table.ensures.nodes falls_nil;
    walk = rw (c.new.ensures.items, c.new-2.ensures.items, c.new-3.ensures.items) (walk_nil _);
  };
}
