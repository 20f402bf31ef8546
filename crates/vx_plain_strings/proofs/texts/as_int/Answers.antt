use Rattle.std.proofs.lemmas.Int.{to_z-of_z}
use Rattle.std.specs.Int.{w64}
use Rattle.vx_plain.proofs.Found.{held_is}
use Rattle.vx_plain_strings.proofs.texts.as_int.Goals as goal

pub returns : goal.returns
returns c = held_is _ _ _ (rw (to_z-of_z w64 c.args.n c.ranges.n) at c.int_if.ensures) c.held.ensures.value
