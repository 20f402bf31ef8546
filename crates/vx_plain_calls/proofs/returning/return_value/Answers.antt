use Rattle.std.proofs.Common.{ap, sym, ◌∙◌}
use Rattle.std.specs.Prelude.{option_map}
use Rattle.vx_java.specs.Returns.{return_to}
use Rattle.vx_plain.specs.Views.{state_of, value_of, values_of}
use Rattle.vx_plain_calls.proofs.ReturnLaws.{by_init, by_wait}
use Rattle.vx_plain_calls.specs.Returns.{as_list}
use Rattle.vx_plain_here.proofs.Comes.{comes_as}
use Rattle.vx_plain_here.specs.Rows.{here_in}
use Rattle.vx_plain_calls.proofs.returning.return_value.Goals as goal

pub returns-in-Call : goal.returns-in-Call
returns-in-Call c =
    let h = here_in c.args.seen.now.here (state_of c.args.state.now) in
    comes_as c.return_call.result _ _ _ _ (ap (λ k. return_to h k (as_list (option_map value_of c.args.value)) h.state.callers) (sym c.in-Call.is ∙ c.kind.ensures)) c.return_call.ensures

pub returns-in-Init : goal.returns-in-Init
returns-in-Init c =
    let h = here_in c.args.seen.now.here (state_of c.args.state.now) in
    comes_as c.return_initialised.result _ _ _ _ (by_init h h.state.callers (as_list (option_map value_of c.args.value)) ∙ ap (λ k. return_to h k (as_list (option_map value_of c.args.value)) h.state.callers) (sym c.in-Init.is ∙ c.kind.ensures)) c.return_initialised.ensures

pub returns-in-Wait : goal.returns-in-Wait
returns-in-Wait c =
    let h = here_in c.args.seen.now.here (state_of c.args.state.now) in
    comes_as c.return_initialised-in-Wait.result _ _ _ _ (by_wait h h.state.callers (as_list (option_map value_of c.args.value)) ∙ ap (λ k. return_to h k (as_list (option_map value_of c.args.value)) h.state.callers) (sym c.in-Wait.is ∙ c.kind.ensures)) c.return_initialised-in-Wait.ensures
