use Rattle.std.proofs.Common.{arith, take}
use Rattle.std.proofs.lemmas.List.{length-take}
use Rattle.vx_plain.proofs.Stacks.{size_most, width_small}
use Rattle.vx_plain.proofs.frame.words_of.Goals as goal

pub overflow_add-words : goal.overflow_add-words
overflow_add-words c =
    let so_far = take c.loop-value.value-index c.args.values.now in
    omega (arith, size_most so_far, length-take c.loop-value.value-index c.args.values.now, width_small _ _ c.width-words.ensures, c.loop-value.invariant)
