use Rattle.std.proofs.Common.{ap, refl, sym, ◌∙◌}
use Rattle.std.specs.Prelude.{Some}
use Rattle.std.specs.Prelude.{option_map}
use Rattle.vx_plain.specs.Views.{state_of, value_of, values_of}
use Rattle.vx_plain_calls.proofs.ReturnLaws.{no_caller, over_full}
use Rattle.vx_plain_calls.specs.Returns.{as_list}
use Rattle.vx_plain_here.proofs.Comes.{comes_as}
use Rattle.vx_plain_here.specs.Rows.{here_in}
use Rattle.vx_plain_calls.proofs.returning.return_call.Goals as goal

pub hand_back-requires : goal.hand_back-requires
hand_back-requires c = sym c.in-Some.ensures ∙ ap Some c.if-fits.true

pub returns-else-fits : goal.returns-else-fits
returns-else-fits c =
    let h = here_in c.args.seen.now.here (state_of c.args.state.now) in
    comes_as c.illegal.result _ _ _ _ (over_full h h.state.callers (as_list (option_map value_of c.args.value)) (ap Some (sym c.if-fits.false) ∙ c.in-Some.ensures)) c.illegal.ensures

pub returns-in-None : goal.returns-in-None
returns-in-None c =
    let h = here_in c.args.seen.now.here (state_of c.args.state.now) in
    record { same = no_caller h h.state.callers (as_list (option_map value_of c.args.value)) c.in-None.ensures; stands = refl }
