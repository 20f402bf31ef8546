use Rattle.std.proofs.Common.{◌∙◌, append-nil, sym}
use Rattle.vx_space.proofs.Spaces.{Extends-refl, Extends-trans, IsSet-extends}
use Rattle.vx_count.proofs.Halves.{AreNumbers-extends}
use Rattle.vx_compare.specs.Differ.{has_either}
use Rattle.vx_compare.specs.Ways.{sides}
use Rattle.vx_compare.proofs.Sided.{against_all, against_more, side_known}
use Rattle.vx_compare.proofs.comparing.put_ways.Goals as goal

pub loop-against-init : goal.loop-against-init
loop-against-init g c = record {
  extends = Extends-refl (g.S.Space.sets c.args.space.now);
  numbers = c.requires.numbers;
  ways = sym (append-nil c.args.ways.now.items);
}

pub and-requires-clause-first : goal.and-requires-clause-first
and-requires-clause-first g c = c.loop-against.invariant.extends.known c.args.here c.requires.here

pub and-requires-clause-second : goal.and-requires-clause-second
and-requires-clause-second g c = side_known c.loop-against.invariant.extends (sides c.args.other.now) c.args.others.now c.loop-against.against-index c.against-item.result c.requires.others c.loop-against-test.true c.against-item.is

pub push_way-requires-clause-numbers : goal.push_way-requires-clause-numbers
push_way-requires-clause-numbers g c = AreNumbers-extends c.in_ok-set.ensures.extends _ c.loop-against.invariant.numbers

pub push_way-requires-clause-options : goal.push_way-requires-clause-options
push_way-requires-clause-options g c = c.requires.options ∙ sym c.loop-against.invariant.extends.options ∙ sym c.in_ok-set.ensures.extends.options

pub push_way-requires-clause-of : goal.push_way-requires-clause-of
push_way-requires-clause-of g c = IsSet-extends (Extends-trans c.loop-against.invariant.extends c.in_ok-set.ensures.extends) c.args.of (has_either c.args.one.now c.args.other.now) c.requires.of

pub push_way-requires-clause-set : goal.push_way-requires-clause-set
push_way-requires-clause-set g c = c.in_ok-set.ensures.ok.known

pub returns-in_err-set-clause-extends : goal.returns-in_err-set-clause-extends
returns-in_err-set-clause-extends g c = Extends-trans c.loop-against.invariant.extends c.and.ensures.extends

pub returns-in_err-push_way-clause-extends : goal.returns-in_err-push_way-clause-extends
returns-in_err-push_way-clause-extends g c = Extends-trans c.loop-against.invariant.extends (Extends-trans c.in_ok-set.ensures.extends c.push_way.ensures.extends)

pub loop-against-preserved : goal.loop-against-preserved
loop-against-preserved g c = record {
  extends = Extends-trans c.loop-against.invariant.extends (Extends-trans c.in_ok-set.ensures.extends c.in_ok-push_way.ensures.extends);
  numbers = c.in_ok-push_way.ensures.numbers;
  ways = against_more c.args.one.now c.args.other.now c.args.end c.args.here c.args.others.now c.loop-against.against-index c.against-item.result c.in_ok-set.set c.args.ways.now.items c.loop-against.ways.items _ c.requires.here c.requires.others c.loop-against-test.true c.against-item.is
      c.loop-against.invariant.extends c.in_ok-set.ensures.ok c.loop-against.invariant.ways c.in_ok-push_way.ensures.ways;
}

pub returns-clause-extends : goal.returns-clause-extends
returns-clause-extends g c = c.loop-against.invariant.extends

pub returns-clause-numbers : goal.returns-clause-numbers
returns-clause-numbers g c = c.loop-against.invariant.numbers

pub returns-clause-ways : goal.returns-clause-ways
returns-clause-ways g c = against_all (g.S.Space.sets c.args.space.now) c.args.one.now c.args.other.now c.args.end c.args.here c.args.others.now c.loop-against.against-index c.args.ways.now.items c.loop-against.ways.items c.requires.others c.loop-against-test.false c.loop-against.invariant.ways
