use Rattle.std.proofs.Common.{sym, ◌∙◌}
use Rattle.vx_java.specs.Initialisation.{chain_blocked}
use Rattle.vx_plain.specs.Views.{state_of}
use Rattle.vx_plain_ready.specs.Waiting.{numbers_of}
use Rattle.vx_plain_start.proofs.Laws.{began_as, blocked_ends, free_begins, over}
use Rattle.vx_plain_start.proofs.beginning.begin_chain.Goals as goal

pub returns-in_ok-blocked_end-in-Some : goal.returns-in_ok-blocked_end-in-Some
returns-in_ok-blocked_end-in-Some c =
    let s = state_of c.args.state.now in
    let p = c.args.program.now in
    let chain = numbers_of c.args.chain.now in
    over c.in_ok-blocked_end-in-Some.field-0 _ s _ (blocked_ends p s c.args.class.0 chain c.in-Some.interface (chain_blocked p chain) c.in-Some.ensures) c.in_ok-blocked_end-in-Some.ensures

pub returns-in-None : goal.returns-in-None
returns-in-None c =
    let s = state_of c.args.state.now in
    let p = c.args.program.now in
    let chain = numbers_of c.args.chain.now in
    began_as c.begin_free.result _ _ _ _ (free_begins p s c.args.class.0 chain (chain_blocked p chain) c.in-None.ensures) c.begin_free.ensures
