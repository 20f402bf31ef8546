use Rattle.std.proofs.Common.{◌∙◌, append-nil, sym}
use Rattle.vx_space.proofs.Spaces.{Extends-refl, Extends-trans, IsSet-extends}
use Rattle.vx_count.proofs.Halves.{AreNumbers-extends}
use Rattle.vx_compare.specs.Differ.{has_either}
use Rattle.vx_compare.specs.Ways.{sides}
use Rattle.vx_compare.proofs.Sided.{all_more, all_ways, side_known, sides_extend}
use Rattle.vx_compare.proofs.comparing.put_all_ways.Goals as goal

pub loop-side-init : goal.loop-side-init
loop-side-init g c = record {
  extends = Extends-refl (g.S.Space.sets c.args.space.now);
  numbers = c.requires.numbers;
  ways = sym (append-nil c.args.ways.now.items);
}

pub and-requires-clause-first : goal.and-requires-clause-first
and-requires-clause-first g c = side_known c.loop-side.invariant.extends (sides c.args.one.now) c.args.own.now c.loop-side.side-index c.side-item.result c.requires.own c.loop-side-test.true c.side-item.is

pub and-requires-clause-second : goal.and-requires-clause-second
and-requires-clause-second g c = c.loop-side.invariant.extends.known c.args.differ c.requires.differ.known

pub put_ways-requires-clause-numbers : goal.put_ways-requires-clause-numbers
put_ways-requires-clause-numbers g c = AreNumbers-extends c.in_ok-here.ensures.extends _ c.loop-side.invariant.numbers

pub put_ways-requires-clause-options : goal.put_ways-requires-clause-options
put_ways-requires-clause-options g c = c.requires.options ∙ sym c.loop-side.invariant.extends.options ∙ sym c.in_ok-here.ensures.extends.options

pub put_ways-requires-clause-of : goal.put_ways-requires-clause-of
put_ways-requires-clause-of g c = IsSet-extends (Extends-trans c.loop-side.invariant.extends c.in_ok-here.ensures.extends) c.args.of (has_either c.args.one.now c.args.other.now) c.requires.of

pub put_ways-requires-clause-here : goal.put_ways-requires-clause-here
put_ways-requires-clause-here g c = c.in_ok-here.ensures.ok.known

pub put_ways-requires-clause-others : goal.put_ways-requires-clause-others
put_ways-requires-clause-others g c = sides_extend (Extends-trans c.loop-side.invariant.extends c.in_ok-here.ensures.extends) (sides c.args.other.now) c.args.others.now c.requires.others

pub returns-in_err-here-clause-extends : goal.returns-in_err-here-clause-extends
returns-in_err-here-clause-extends g c = Extends-trans c.loop-side.invariant.extends c.and.ensures.extends

pub returns-in_err-put_ways-clause-extends : goal.returns-in_err-put_ways-clause-extends
returns-in_err-put_ways-clause-extends g c = Extends-trans c.loop-side.invariant.extends (Extends-trans c.in_ok-here.ensures.extends c.put_ways.ensures.extends)

pub loop-side-preserved : goal.loop-side-preserved
loop-side-preserved g c = record {
  extends = Extends-trans c.loop-side.invariant.extends (Extends-trans c.in_ok-here.ensures.extends c.in_ok-put_ways.ensures.extends);
  numbers = c.in_ok-put_ways.ensures.numbers;
  ways = all_more c.args.one.now c.args.other.now c.args.differ c.args.own.now c.loop-side.side-index c.side-item.result c.in_ok-here.here c.args.ways.now.items c.loop-side.ways.items _ c.requires.differ c.requires.own c.loop-side-test.true c.side-item.is
      c.loop-side.invariant.extends c.in_ok-here.ensures.ok c.loop-side.invariant.ways c.in_ok-put_ways.ensures.ways;
}

pub returns-clause-extends : goal.returns-clause-extends
returns-clause-extends g c = c.loop-side.invariant.extends

pub returns-clause-numbers : goal.returns-clause-numbers
returns-clause-numbers g c = c.loop-side.invariant.numbers

pub returns-clause-ways : goal.returns-clause-ways
returns-clause-ways g c = all_ways (g.S.Space.sets c.args.space.now) c.args.one.now c.args.other.now c.args.own.now c.loop-side.side-index c.args.ways.now.items c.loop-side.ways.items c.requires.own c.loop-side-test.false c.loop-side.invariant.ways
