use Rattle.std.specs.Prelude.{option_map}
use Rattle.vx_plain.specs.Views.{state_of, value_of}
use Rattle.vx_plain_calls.proofs.ReturnLaws.{none_fits}
use Rattle.vx_plain_calls.specs.Returns.{as_list}
use Rattle.vx_plain_calls.proofs.returning.hand_back.Goals as goal

pub resume_top-requires : goal.resume_top-requires
resume_top-requires c = c.args.seen.now.known.short

pub unreachable-requires : goal.unreachable-requires
unreachable-requires c = none_fits c.args.seen.now.here.program.now (state_of c.args.state.now).callers (as_list (option_map value_of c.args.value)) c.in-None.ensures.0 c.requires
