use Rattle.std.proofs.Common.{ap, ◌∙◌}
use Rattle.std.specs.Prelude.{option_and_then}
use Rattle.vx_plain_arrays.proofs.GridLaws.{int_seen}
use Rattle.vx_plain_arrays.specs.Grids.{int_of}
use Rattle.vx_plain_arrays.proofs.lengths.int_at.Goals as goal

pub returns-in-Some : goal.returns-in-Some
returns-in-Some c = c.int_in.ensures ∙ int_seen c.in-Some.value ∙ ap (option_and_then int_of) c.in-Some.ensures

pub returns-in-None : goal.returns-in-None
returns-in-None c = ap (option_and_then int_of) c.in-None.ensures
