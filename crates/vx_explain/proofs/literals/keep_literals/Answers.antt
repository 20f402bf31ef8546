use Rattle.std.proofs.Common.{refl, subst, sym, ◌+◌}
use Rattle.vx_space.proofs.Spaces.{Extends-trans}
use Rattle.vx_explain.specs.Rules.{AreNamed}
use Rattle.vx_explain.proofs.FirstLiterals.{IsKeeping-all, IsKeeping-next, IsKeeping-start, drop_past, items_behind, kept_later, later_named, literal_named}
use Rattle.vx_explain.proofs.literals.keep_literals.Goals as goal

pub loop-at-init : goal.loop-at-init
loop-at-init g c = IsKeeping-start (g.S.Space.sets c.args.space.now) c.args.least c.args.kept.now.items c.args.taken.now c.requires.kept c.requires.taken

pub keep_literal-requires-clause-least : goal.keep_literal-requires-clause-least
keep_literal-requires-clause-least g c = c.loop-at.invariant.extends.known c.args.least c.requires.least

pub keep_literal-requires-clause-literal : goal.keep_literal-requires-clause-literal
keep_literal-requires-clause-literal g c = literal_named _ _ c.args.taken.now c.loop-at.at _ c.loop-at-test.true refl (subst (λ n. AreNamed n c.args.taken.now) (sym c.loop-at.invariant.extends.options) c.requires.taken)

pub keep_literal-requires-clause-kept : goal.keep_literal-requires-clause-kept
keep_literal-requires-clause-kept g c = kept_later c.loop-at.invariant

pub keep_literal-requires-clause-later : goal.keep_literal-requires-clause-later
keep_literal-requires-clause-later g c = rw (items_behind c.args.taken.now (c.loop-at.at + 1)) (later_named c.args.taken.now c.loop-at.at c.loop-at-test.true c.loop-at.invariant)

pub returns-in_err-keep_literal-clause-extends : goal.returns-in_err-keep_literal-clause-extends
returns-in_err-keep_literal-clause-extends g c = Extends-trans c.loop-at.invariant.extends c.keep_literal.ensures.extends

pub loop-at-preserved : goal.loop-at-preserved
loop-at-preserved g c = IsKeeping-next _ c.in_ok-keep_literal.ensures.extends c.args.least c.args.kept.now.items c.args.taken.now c.loop-at.kept.items _ c.loop-at.at _ c.requires.least c.loop-at-test.true refl c.loop-at.invariant (rw (items_behind c.args.taken.now (c.loop-at.at + 1)) at c.in_ok-keep_literal.ensures.kept)

pub returns-clause-extends : goal.returns-clause-extends
returns-clause-extends g c = c.loop-at.invariant.extends

pub returns-clause-kept : goal.returns-clause-kept
returns-clause-kept g c = IsKeeping-all c.args.least c.args.kept.now.items c.args.taken.now c.loop-at.kept.items _ (drop_past c.args.taken.now c.loop-at.at c.loop-at-test.false) c.loop-at.invariant
