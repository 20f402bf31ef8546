use Rattle.std.proofs.Common.{◌∙◌}
use Rattle.vx_tally.proofs.ListedLaws.{insert-front}
use Rattle.vx_tally.proofs.listing.list_greatest.Goals as goal

pub returns-clause-ok : goal.returns-clause-ok
returns-clause-ok g c = record {
  leaf = record { value = c.in-Some.most; condition = c.in_ok-condition.condition };
  put = c.in_ok-insert.ensures.items ∙ insert-front c.args.leaves.now.items _;
  most = rw c.in-Some.is at c.in_ok-most.ensures;
  middle = g.S.Space.sets c.reaching.new.space;
  first = c.in_ok-condition.ensures.extends;
  second = c.in_ok-left.ensures.extends;
  condition = c.in_ok-condition.ensures.ok;
  left_is = c.in_ok-left.ensures.ok;
}
