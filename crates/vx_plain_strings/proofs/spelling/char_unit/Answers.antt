use Rattle.std.proofs.lemmas.Int.{to_z-of_z}
use Rattle.std.specs.Int.{w32}
use Rattle.vx_plain.proofs.Found.{held_is}
use Rattle.vx_plain_strings.proofs.spelling.char_unit.Goals as goal

pub returns : goal.returns
returns c = held_is _ _ _ (rw (to_z-of_z w32 c.args.n c.ranges.n) at c.unit_if.ensures) c.held.ensures.value
