use Rattle.std.proofs.Common.{◌∷◌, sym, ◌∙◌}
use Rattle.vx_join.proofs.Whole.{all_known, is_joined, many_rounds, none_spent}
use Rattle.vx_join.proofs.joining.join.Goals as goal

pub returns-in_default-clause-join : goal.returns-in_default-clause-join
returns-in_default-clause-join g c = many_rounds c.args.first.now c.args.others.now c.in_default.ensures

pub returns-then-lacks_attempts-clause-join : goal.returns-then-lacks_attempts-clause-join
returns-then-lacks_attempts-clause-join g c =
    none_spent (g.S.Space.sets c.collect.new.space) c.args.first.now c.args.others.now c.in_ok-collected.collected c.in_ok-collected.ensures.collected (sym c.lacks_attempts.ensures ∙ c.if-lacks_attempts.true)

pub nodes_of-requires : goal.nodes_of-requires
nodes_of-requires g c = all_known (g.S.Space.sets c.collect.new.space) (c.args.first.now ∷ c.args.others.now) c.in_ok-collected.collected c.in_ok-collected.ensures.collected

pub returns-clause-join : goal.returns-clause-join
returns-clause-join g c =
    is_joined (g.met.S.Space.lawful c.collect.new.space) c.args.first.now c.args.others.now c.in-Some.rounds c.in_ok-collected.collected c.in_ok-list.list.nodes c.in_ok-list.list.roots c.in_ok-report_of.field-0
    (record {
      lawful = c.requires.first;
      all_are = c.requires.others;
      like = c.requires.like;
      options = c.requires.options ∙ sym c.in_ok-collected.ensures.extends.options;
      rounds_are = c.in-Some.ensures;
      few = c.counts_fit.ensures.rounds;
      short = rw c.as_slice.ensures at c.counts_fit.ensures.nodes;
      are = c.in_ok-collected.ensures.collected;
      some = sym c.lacks_attempts.ensures ∙ c.if-lacks_attempts.false;
      listing = c.in_ok-list.ensures;
    })
    c.in_ok-report_of.ensures
