use Rattle.std.proofs.Common.{arith, suc, ◌≡◌}
use Rattle.vx_numbered.proofs.ChainLaws.{chain_step, link_read}
use Rattle.vx_numbered.proofs.chains.Chains.popped.Goals as goal

pub returns-clause-some : goal.returns-clause-some
returns-clause-some c =
    let place : c.args.stack ≡ suc c.in_ok-place.place = omega arith in
    rw (link_read c.args.self.now.links.items c.in_ok-place.place c.index-link.result.now (omega (arith, c.requires)) c.index-link.ensures)
    (chain_step c.args.self.now.links.items c.args.self.now.fall c.args.stack c.in_ok-place.place place c.requires)

pub returns-clause-falls : goal.returns-clause-falls
returns-clause-falls c =
    let falls = c.args.self.now.fall c.in_ok-place.place (omega (arith, c.requires)) in
    rw (link_read c.args.self.now.links.items c.in_ok-place.place c.index-link.result.now (omega (arith, c.requires)) c.index-link.ensures)
    (omega (arith, falls))
