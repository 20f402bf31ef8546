use Rattle.std.proofs.Common.{◌∙◌, ap}
use Rattle.vx_java.specs.Initialisation.{chain_blocked, init_chain}
use Rattle.vx_java.specs.Step.{begun}
use Rattle.vx_plain.specs.Views.{state_of}
use Rattle.vx_plain_ready.proofs.Laws.{numbers_back}
use Rattle.vx_plain_ready.specs.Waiting.{numbers_of}
use Rattle.vx_plain_start.proofs.Laws.{began_as}
use Rattle.vx_plain_start.proofs.beginning.begin_main.Goals as goal

pub returns : goal.returns
unfolding state_of
returns c =
    let s = state_of c.args.state.now in
    let p = c.args.program.now in
    let class = c.current_class-class.result.0 in
    let chained = ap numbers_of (c.deref.ensures.value ∙ c.in_ok-chain.ensures) ∙ numbers_back (init_chain p c.as_slice.result.now class) ∙ ap (λ inits. init_chain p inits class) c.as_slice.ensures.value in
    began_as c.begin_chain.result _ _ _ _
    (ap (λ chain. begun p s class chain (chain_blocked p chain)) chained
    ∙ ap (λ k. begun p s k (init_chain p s.inits k) (chain_blocked p (init_chain p s.inits k))) c.current_class-class.ensures)
    c.begin_chain.ensures
