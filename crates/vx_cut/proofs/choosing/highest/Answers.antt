use Rattle.std.proofs.Common.{arith, ap, ◌∙◌, ◌+◌, false, length, sym}
use Rattle.std.proofs.lemmas.List.{length-set}
use Rattle.vx_cut.specs.Choices.{chosen_count}
use Rattle.vx_cut.proofs.Chosen.{all_counted, none_chosen, one_more, place_below}
use Rattle.vx_cut.proofs.choosing.highest.Goals as goal

pub loop-round-init : goal.loop-round-init
loop-round-init c = record {
  options = omega (arith, c.in_ok-chosen.ensures.len, c.in_ok-chosen.chosen.ok.0);
  count = ap chosen_count (c.in_ok-chosen.ensures.items_if_clones_equal (λ y e. e)) ∙ none_chosen (length c.args.ranks.now);
}

pub returns-in_default : goal.returns-in_default
returns-in_default c =
    let all = rw (c.in_default.is, c.as_slice.ensures.value) at c.best_open.ensures in
    omega (arith, all_counted c.loop-round.chosen.items all, c.loop-round.invariant.options, c.loop-round.invariant.count, c.loop-round-test.true)

pub index_mut-requires : goal.index_mut-requires
index_mut-requires c = omega (arith, place_below c.loop-round.chosen.items c.in-Some.place false (rw c.as_slice.ensures.value at c.in-Some.ensures), c.loop-round.chosen.ok.0)

pub loop-round-preserved : goal.loop-round-preserved
loop-round-preserved c = record {
  options = length-set c.loop-round.chosen.items c.in-Some.place _ ∙ c.loop-round.invariant.options;
  count = one_more c.loop-round.chosen.items c.in-Some.place (rw c.as_slice.ensures.value at c.in-Some.ensures) ∙ ap (λ n. n + 1) c.loop-round.invariant.count;
}
