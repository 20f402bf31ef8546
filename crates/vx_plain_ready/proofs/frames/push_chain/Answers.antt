use Rattle.std.proofs.Common.{◌<◌, ◌∙◌, ap, arith, length}
use Rattle.std.proofs.lemmas.List.{length-map}
use Rattle.vx_java.specs.Machine.{with_inits}
use Rattle.vx_plain.specs.Views.{state_of}
use Rattle.vx_plain_ready.proofs.Laws.{rouses}
use Rattle.vx_plain_ready.specs.Waiting.{numbers_of, roused, waiting}
use Rattle.vx_value.specs.declared.slot.InitState.TheVariants.{Running}
use Rattle.vx_plain_ready.proofs.frames.push_chain.Goals as goal

pub returns : goal.returns
returns c =
    let p = c.args.program.now in
    let s = state_of c.args.state.now in
    let chain = numbers_of c.args.chain.now in
    let some : 0 < length chain = omega (arith, length-map c.args.chain.now (λ k. k.0), c.if-chain-eq0.false) in
    c.rouse.ensures
    ∙ ap roused c.in_ok-push_all.ensures
    ∙ ap (λ marked. roused (waiting p marked chain)) c.mark.ensures
    ∙ rouses p (with_inits s Running chain) chain some
