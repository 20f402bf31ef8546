use Rattle.std.proofs.Common.{rules, ◌≡◌, true, length, refl}
use Rattle.vx_bdd_tools.specs.Nodes.{IsNextNode}
use Rattle.vx_report_reader.specs.Bodies.{report_of}
use Rattle.vx_report_reader.specs.Rules.{numbers}
use Rattle.vx_report_reader.proofs.More.{falls_more, walk_more}
use Rattle.vx_report_reader.proofs.body.with_next_node.Goals as goal

pub returns : goal.returns
returns c =
    let first : numbers (report_of c.args.body) c.args.id ≡ true = search rules in
    let next : IsNextNode (length c.args.body.options.items) c.args.body.table.nodes.items c.args.node = search rules in
    record {
      may = (first, next);
      says = rw c.in_ok-body.ensures.nodes refl;
      sound = record {
        known = c.in_ok-body.ensures.known;
        falls = rw c.in_ok-body.ensures.nodes (falls_more _ _ c.requires.falls next.low_given next.high_given);
        walk = walk_more (report_of c.args.body) c.args.id c.args.body.given _ first c.requires.walk;
      };
    }
