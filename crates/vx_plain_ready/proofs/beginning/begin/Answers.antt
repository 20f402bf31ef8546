use Rattle.std.proofs.Common.{◌∙◌, ap}
use Rattle.vx_java.specs.Initialisation.{begin_chain, chain_blocked, init_chain}
use Rattle.vx_plain.specs.Views.{state_of}
use Rattle.vx_plain_here.proofs.Comes.{comes_as}
use Rattle.vx_plain_ready.proofs.Laws.{numbers_back}
use Rattle.vx_plain_ready.specs.Waiting.{numbers_of}
use Rattle.vx_plain_ready.proofs.beginning.begin.Goals as goal

pub returns : goal.returns
unfolding state_of
returns c =
    let s = state_of c.args.state.now in
    let p = c.args.program.now in
    let chained = ap numbers_of (c.deref.ensures.value ∙ c.in_ok-chain.ensures) ∙ numbers_back (init_chain p c.as_slice.result.now c.args.class.0) ∙ ap (λ inits. init_chain p inits c.args.class.0) c.as_slice.ensures.value in
    comes_as c.begin_chain.result _ _ _ _ (ap (λ chain. begin_chain p s c.args.class.0 chain (chain_blocked p chain)) chained) c.begin_chain.ensures
