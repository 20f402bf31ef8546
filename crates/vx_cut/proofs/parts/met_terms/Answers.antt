use Rattle.std.proofs.Common.{◌∙◌, refl, ap, filter, take, arith}
use Rattle.std.proofs.lemmas.List.{take_all}
use Rattle.vx_model.specs.Models.{is_allowed}
use Rattle.vx_space.proofs.Spaces.{Extends-refl, IsSet-extends}
use Rattle.vx_cut.specs.Parts.{is_met}
use Rattle.vx_cut.proofs.Sets.{AreMet-step, term_at}
use Rattle.vx_cut.proofs.parts.met_terms.Goals as goal

pub loop-term-init : goal.loop-term-init
loop-term-init g c = record { extends = Extends-refl _; met = c.new-found.ensures.items }

pub is_met-requires-clause-allowed : goal.is_met-requires-clause-allowed
is_met-requires-clause-allowed g c = IsSet-extends c.loop-term.invariant.extends c.args.allowed (is_allowed c.args.model.now) c.requires.allowed

pub is_met-requires-clause-options : goal.is_met-requires-clause-options
is_met-requires-clause-options g c = c.loop-term.invariant.extends.options ∙ c.requires.options

pub is_met-requires-clause-term : goal.is_met-requires-clause-term
is_met-requires-clause-term g c = rw (c.as_slice.ensures, c.loop-term.invariant.extends.options) (term_at _ c.args.terms.now c.loop-term.term-index c.term-item.result c.loop-term-test.true c.term-item.is c.requires.terms)

pub loop-term-preserved : goal.loop-term-preserved
loop-term-preserved g c =
    AreMet-step _ _ _ c.args.model.now c.args.terms.now c.loop-term.found.items _ c.loop-term.term-index c.term-item.result c.in_ok-met.met c.loop-term-test.true c.term-item.is c.loop-term.invariant c.in_ok-met.ensures.extends (c.in_ok-met.ensures.met ∙ ap (is_met c.args.model.now) c.as_slice.ensures) (rw c.as_slice-in-loop-term.ensures at c.in_ok-keep.ensures)

pub returns-clause-met : goal.returns-clause-met
returns-clause-met g c = c.loop-term.invariant.met ∙ ap (filter (is_met c.args.model.now)) (take_all c.loop-term.term-index c.args.terms.now c.loop-term-test.false)

pub returns-clause-extends : goal.returns-clause-extends
returns-clause-extends g c = c.loop-term.invariant.extends
