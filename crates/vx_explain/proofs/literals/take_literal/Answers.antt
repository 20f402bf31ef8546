use Rattle.std.proofs.Common.{sym, ◌∙◌}
use Rattle.vx_space.proofs.Spaces.{Extends-refl, Extends-trans}
use Rattle.vx_explain.proofs.FirstLiterals.{taken_told, takes_none, takes_this}
use Rattle.vx_explain.proofs.LeftOut.{out_not_taken}
use Rattle.vx_explain.proofs.literals.take_literal.Goals as goal

pub returns-then-leaves_out-clause-one : goal.returns-then-leaves_out-clause-one
returns-then-leaves_out-clause-one g c = takes_none (Extends-refl (g.S.Space.sets c.args.space.now)) c.args.most c.args.literal c.args.rest c.args.taken.now.items c.requires.rest (out_not_taken (g.met.S.Space.lawful c.args.space.now) _ c.args.most c.args.literal c.requires.most c.requires.literal (c.leaves_out.ensures c.if-leaves_out.true))

pub returns-then-not-branch-clause-one : goal.returns-then-not-branch-clause-one
returns-then-not-branch-clause-one g c =
    let x = c.in_ok-set.ensures.extends in
    takes_none (Extends-trans x c.in_ok-is_useful.ensures.extends) c.args.most c.args.literal c.args.rest c.args.taken.now.items c.requires.rest (taken_told x c.args.literal c.args.rest c.args.most c.in_ok-set.set _ c.requires.rest c.requires.most c.in_ok-set.ensures.set c.in_ok-is_useful.ensures.useful ∙ c.if-not-branch.true)

pub returns-clause-one : goal.returns-clause-one
returns-clause-one g c =
    let x = c.in_ok-set.ensures.extends in
    takes_this x c.in_ok-is_useful.ensures.extends c.args.most c.args.literal c.args.rest c.in_ok-set.set c.in_ok-left.left c.args.taken.now.items _ c.requires.rest (taken_told x c.args.literal c.args.rest c.args.most c.in_ok-set.set _ c.requires.rest c.requires.most c.in_ok-set.ensures.set c.in_ok-is_useful.ensures.useful ∙ c.if-not-branch.false) c.in_ok-set.ensures.set c.in_ok-left.ensures.ok c.in_ok-push.ensures.items
