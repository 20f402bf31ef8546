use Rattle.std.proofs.Common.{◌≡◌, ◌+◌, ◌-◌, ◌≤◌, ◌<◌, ℕ, Bool, List, [], ◌∷◌, drop, length, false, refl, sym, ap, ◌∙◌, arith}
use Rattle.std.proofs.lemmas.List.{drop_all}
use Rattle.vx_explain.specs.declared.literal.Literal.{Literal}
use Rattle.vx_cut.specs.Parts.{sides}
use Rattle.vx_cut.proofs.Sets.{sides_first, sides_step}
use Rattle.vx_cut.proofs.parts.sides.Goals as goal

pub loop-left-init : goal.loop-left-init
loop-left-init c = record { within = omega arith; so_far = rw (c.in_ok-push.ensures.items, c.new-terms.ensures.items, c.of.ensures, c.new.ensures.items) (sides_first c.args.chosen.now) }

pub loop-left-preserved : goal.loop-left-preserved
loop-left-preserved c =
    let back : c.loop-left.left ≡ c.loop-left.left - 1 + 1 = omega (arith, c.loop-left-test.true) in
    record {
      within = omega (arith, c.loop-left.invariant.within);
      so_far = sides_step c.args.chosen.now (c.loop-left.left - 1) _ c.loop-left.terms.items _ (omega (arith, c.loop-left-test.true, c.loop-left.invariant.within)) (c.loop-left.invariant.so_far ∙ ap (λ k. sides k (drop k c.args.chosen.now)) back) c.in_ok-terms.ensures;
    }

pub returns : goal.returns
returns c =
    let zero : c.loop-left.left ≡ 0 = omega (arith, c.loop-left-test.false) in
    c.loop-left.invariant.so_far ∙ ap (λ k. sides k (drop k c.args.chosen.now)) zero
