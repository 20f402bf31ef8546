use Rattle.std.proofs.Common.{ap, ◌∙◌}
use Rattle.std.specs.Prelude.{Some, option_map}
use Rattle.vx_plain.specs.Views.{state_of, value_of, values_of}
use Rattle.vx_plain_calls.proofs.ReturnLaws.{fits_last, fits_none}
use Rattle.vx_plain_calls.specs.Returns.{as_list}
use Rattle.vx_plain_calls.proofs.returning.fits_below.Goals as goal

pub returns-in-Some : goal.returns-in-Some
unfolding state_of
returns-in-Some c = ap Some c.fits_caller.ensures ∙ fits_last c.args.program.now c.args.state.now.callers.items c.in-Some.caller.now (as_list (option_map value_of c.args.value)) (rw c.as_slice.ensures.value at c.in-Some.ensures.value)

pub returns-in-None : goal.returns-in-None
unfolding state_of
returns-in-None c = fits_none c.args.program.now c.args.state.now.callers.items (as_list (option_map value_of c.args.value)) (rw c.as_slice.ensures.value at c.in-None.ensures.value)
