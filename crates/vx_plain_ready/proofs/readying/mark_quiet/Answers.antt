use Rattle.std.proofs.Common.{◌∙◌, ap}
use Rattle.vx_java.specs.Initialisation.{init_chain}
use Rattle.vx_java.specs.Machine.{with_inits}
use Rattle.vx_plain.specs.Views.{state_of}
use Rattle.vx_plain_here.specs.Rows.{here_in}
use Rattle.vx_plain_ready.proofs.Laws.{numbers_back, quiet}
use Rattle.vx_plain_ready.specs.Waiting.{numbers_of}
use Rattle.vx_value.specs.declared.slot.InitState.TheVariants.{Done}
use Rattle.vx_plain_ready.proofs.readying.mark_quiet.Goals as goal

pub returns : goal.returns
unfolding state_of
returns c =
    let s = state_of c.args.state.now in
    let p = c.args.here.now.program.now in
    let chained = ap numbers_of (c.deref.ensures.value ∙ c.in_ok-chain.ensures) ∙ numbers_back (init_chain p c.as_slice.result.now c.args.class.0) ∙ ap (λ inits. init_chain p inits c.args.class.0) c.as_slice.ensures.value in
    quiet (here_in c.args.here.now s) c.args.class.0 _ c.requires.not c.requires.quiet (c.mark.ensures ∙ ap (λ chain. with_inits s Done chain) chained)
