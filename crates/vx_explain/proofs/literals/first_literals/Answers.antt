use Rattle.vx_space.proofs.Spaces.{Extends-trans}
use Rattle.vx_explain.proofs.FirstLiterals.{firsts_are, firsts_named, literals_named}
use Rattle.vx_explain.proofs.literals.first_literals.Goals as goal

pub take_literals-requires-clause-named : goal.take_literals-requires-clause-named
take_literals-requires-clause-named g c = rw c.as_slice.ensures.value (literals_named _ _ c.in_ok-all.all.items c.options.ensures c.in_ok-all.ensures)

pub keep_literals-requires-clause-least : goal.keep_literals-requires-clause-least
keep_literals-requires-clause-least g c = c.in_ok-take_literals.ensures.extends.known c.args.least c.requires.least

pub keep_literals-requires-clause-kept : goal.keep_literals-requires-clause-kept
keep_literals-requires-clause-kept g c = rw c.new-kept.ensures.items tt

pub keep_literals-requires-clause-taken : goal.keep_literals-requires-clause-taken
keep_literals-requires-clause-taken g c = rw c.as_slice-2.ensures.value (firsts_named c.in_ok-take_literals.ensures.extends _ c.args.least c.args.most _ c.in_ok-all.all.items c.take_literals.new.taken.items c.options.ensures c.new-taken.ensures.items c.in_ok-all.ensures (rw c.as_slice.ensures.value at c.in_ok-take_literals.ensures.taken))

pub returns-in_err-keep_literals-clause-extends : goal.returns-in_err-keep_literals-clause-extends
returns-in_err-keep_literals-clause-extends g c = Extends-trans c.in_ok-take_literals.ensures.extends c.keep_literals.ensures.extends

pub returns-clause-extends : goal.returns-clause-extends
returns-clause-extends g c = Extends-trans c.in_ok-take_literals.ensures.extends c.in_ok-keep_literals.ensures.extends

pub returns-clause-literals : goal.returns-clause-literals
returns-clause-literals g c = firsts_are c.in_ok-take_literals.ensures.extends _ c.args.least c.args.most _ _ c.in_ok-all.all.items c.take_literals.new.taken.items c.keep_literals.new.kept.items c.requires.least c.options.ensures c.new-taken.ensures.items c.new-kept.ensures.items c.in_ok-all.ensures (rw c.as_slice.ensures.value at c.in_ok-take_literals.ensures.taken) (rw c.as_slice-2.ensures.value at c.in_ok-keep_literals.ensures.kept)
