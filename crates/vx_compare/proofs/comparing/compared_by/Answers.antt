use Rattle.std.proofs.Common.{◌∙◌, sym}
use Rattle.vx_space.proofs.Spaces.{Extends-trans, IsSet-extends}
use Rattle.vx_compare.specs.Differ.{differs, has_either}
use Rattle.vx_compare.specs.Ways.{sides}
use Rattle.vx_compare.proofs.Sided.{compared_is, sides_extend}
use Rattle.vx_compare.proofs.comparing.compared_by.Goals as goal

pub put_all_ways-requires-clause-options : goal.put_all_ways-requires-clause-options
put_all_ways-requires-clause-options g c = c.requires.options ∙ sym c.in_ok-rule.ensures.extends.options

pub put_all_ways-requires-clause-of : goal.put_all_ways-requires-clause-of
put_all_ways-requires-clause-of g c = IsSet-extends c.in_ok-rule.ensures.extends c.args.of (has_either c.args.one.now c.args.other.now) c.requires.of

pub put_all_ways-requires-clause-differ : goal.put_all_ways-requires-clause-differ
put_all_ways-requires-clause-differ g c = IsSet-extends c.in_ok-rule.ensures.extends c.args.differ (differs c.args.one.now c.args.other.now) c.requires.differ

pub put_all_ways-requires-clause-own : goal.put_all_ways-requires-clause-own
put_all_ways-requires-clause-own g c = sides_extend c.in_ok-rule.ensures.extends (sides c.args.one.now) c.args.own.now c.requires.own

pub put_all_ways-requires-clause-others : goal.put_all_ways-requires-clause-others
put_all_ways-requires-clause-others g c = sides_extend c.in_ok-rule.ensures.extends (sides c.args.other.now) c.args.others.now c.requires.others

pub returns-clause-compared : goal.returns-clause-compared
returns-clause-compared g c =
    compared_is c.in_ok-rule.ensures.extends c.args.one.now c.args.other.now c.args.of c.args.differ
    (record { of = c.in_ok-number_of.number_of; differ = c.in_ok-number_differ.number_differ; rule = c.in_ok-rule.rule; ways = c.of.result })
    c.requires.options c.requires.of c.requires.differ c.in_ok-number_of.ensures.number c.in_ok-number_differ.ensures.number c.in_ok-rule.ensures.rule
    (c.of.ensures ∙ rw c.new-ways.ensures.items at c.in_ok-put_all_ways.ensures.ways)
