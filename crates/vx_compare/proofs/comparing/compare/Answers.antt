use Rattle.std.proofs.Common.{◌∙◌, ap, length, sym}
use Rattle.vx_space.proofs.Spaces.{Extends-trans, IsSet-extends}
use Rattle.vx_cover.specs.Covers.{has_end}
use Rattle.vx_compare.specs.Differ.{has_either}
use Rattle.vx_compare.specs.Ways.{sides}
use Rattle.vx_compare.proofs.Sided.{differ_is, either_is, sides_extend}
use Rattle.vx_compare.proofs.comparing.compare.Goals as goal

pub sides_of-requires-clause-options : goal.sides_of-requires-clause-options
sides_of-requires-clause-options g c = c.requires.options ∙ sym c.in_ok-agree.ensures.extends.options

pub sides_of-requires-2-clause-options : goal.sides_of-requires-2-clause-options
sides_of-requires-2-clause-options g c = ap length (sym c.requires.names) ∙ c.requires.options ∙ sym c.in_ok-agree.ensures.extends.options ∙ sym c.in_ok-sided.ensures.extends.options

pub or-requires-clause-first : goal.or-requires-clause-first
or-requires-clause-first g c = c.in_ok-against.ensures.extends.known _ c.in_ok-sided.ensures.ended.known

pub or-requires-clause-second : goal.or-requires-clause-second
or-requires-clause-second g c = c.in_ok-against.ensures.ended.known

pub minus-requires-clause-second : goal.minus-requires-clause-second
minus-requires-clause-second g c = (Extends-trans c.in_ok-sided.ensures.extends (Extends-trans c.in_ok-against.ensures.extends c.in_ok-of.ensures.extends)).known _ c.in_ok-agree.ensures.agreement.known

pub compared_by-requires-clause-options : goal.compared_by-requires-clause-options
compared_by-requires-clause-options g c = c.requires.options ∙ sym (Extends-trans c.in_ok-agree.ensures.extends (Extends-trans c.in_ok-sided.ensures.extends (Extends-trans c.in_ok-against.ensures.extends (Extends-trans c.in_ok-of.ensures.extends c.in_ok-differ.ensures.extends)))).options

pub compared_by-requires-clause-of : goal.compared_by-requires-clause-of
compared_by-requires-clause-of g c = IsSet-extends c.in_ok-differ.ensures.extends c.in_ok-of.of (has_either c.args.one.now c.args.other.now)
    (either_is c.in_ok-against.ensures.extends c.args.one.now c.args.other.now _ _ c.in_ok-of.of c.in_ok-sided.ensures.ended c.in_ok-against.ensures.ended c.in_ok-of.ensures.ok)

pub compared_by-requires-clause-differ : goal.compared_by-requires-clause-differ
compared_by-requires-clause-differ g c = differ_is (Extends-trans c.in_ok-sided.ensures.extends (Extends-trans c.in_ok-against.ensures.extends c.in_ok-of.ensures.extends)) c.args.one.now c.args.other.now c.in_ok-agree.agree c.in_ok-of.of c.in_ok-differ.differ c.in_ok-agree.ensures.agreement
    (either_is c.in_ok-against.ensures.extends c.args.one.now c.args.other.now _ _ c.in_ok-of.of c.in_ok-sided.ensures.ended c.in_ok-against.ensures.ended c.in_ok-of.ensures.ok) c.in_ok-differ.ensures.ok

pub compared_by-requires-clause-own : goal.compared_by-requires-clause-own
compared_by-requires-clause-own g c = rw c.as_slice-own.ensures.value (sides_extend (Extends-trans c.in_ok-against.ensures.extends (Extends-trans c.in_ok-of.ensures.extends c.in_ok-differ.ensures.extends)) (sides c.args.one.now) _ c.in_ok-sided.ensures.sides)

pub compared_by-requires-clause-others : goal.compared_by-requires-clause-others
compared_by-requires-clause-others g c = rw c.as_slice-others.ensures.value (sides_extend (Extends-trans c.in_ok-of.ensures.extends c.in_ok-differ.ensures.extends) (sides c.args.other.now) _ c.in_ok-against.ensures.sides)

pub returns-clause-extends : goal.returns-clause-extends
returns-clause-extends g c = Extends-trans c.in_ok-agree.ensures.extends (Extends-trans c.in_ok-sided.ensures.extends (Extends-trans c.in_ok-against.ensures.extends (Extends-trans c.in_ok-of.ensures.extends (Extends-trans c.in_ok-differ.ensures.extends c.compared_by.ensures.extends))))
