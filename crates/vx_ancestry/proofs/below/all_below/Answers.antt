use Rattle.std.proofs.Common.{◌∙◌, ap, sym, length, add-one, arith}
use Rattle.vx_ancestry.specs.Ancestors.{one_step_more, below_within}
use Rattle.vx_ancestry.proofs.Rounds.{below_within-zero, below_within-suc, same_round, last_round}
use Rattle.vx_ancestry.proofs.below.all_below.Goals as goal

pub loop-steps-init : goal.loop-steps-init
loop-steps-init c = c.in_ok-below.ensures ∙ sym (below_within-zero c.args.parents.now c.args.above)

pub returns-then-eq : goal.returns-then-eq
returns-then-eq c =
    let same = same_round c.as_slice-in-loop-steps.result.now c.as_slice.result.now c.eq.result c.eq.ensures c.if-eq.true in
    let round = c.in_ok-more.ensures ∙ ap (one_step_more c.args.parents.now c.args.above) (c.deref.ensures.value ∙ c.loop-steps.invariant) in
    let fixed = sym round ∙ sym c.as_slice.ensures.value ∙ same ∙ c.as_slice-in-loop-steps.ensures.value ∙ c.loop-steps.invariant in
    c.loop-steps.invariant
    ∙ last_round c.args.parents.now c.args.above c.loop-steps._steps (length c.args.parents.now) (omega arith) fixed

pub loop-steps-preserved : goal.loop-steps-preserved
loop-steps-preserved c =
    c.in_ok-more.ensures ∙ ap (one_step_more c.args.parents.now c.args.above) (c.deref.ensures.value ∙ c.loop-steps.invariant)
    ∙ sym (below_within-suc c.args.parents.now c.args.above c.loop-steps._steps) ∙ ap (below_within c.args.parents.now c.args.above) (sym (add-one c.loop-steps._steps))
