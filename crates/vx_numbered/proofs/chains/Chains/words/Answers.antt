use Rattle.std.proofs.Common.{arith, ap, suc, sym, ◌≡◌, ◌∙◌}
use Rattle.vx_numbered.proofs.ChainLaws.{link_read}
use Rattle.vx_numbered.specs.Chains.{words_at}
use Rattle.vx_numbered.specs.declared.chains.Link.{Link}
use Rattle.vx_numbered.proofs.chains.Chains.words.Goals as goal

pub returns-in-Some : goal.returns-in-Some
returns-in-Some c =
    let place : c.args.stack ≡ suc c.in-Some.place = omega (arith, c.in-Some.ensures) in
    ap (λ (k : Link). k.words) (link_read c.args.self.now.links.items c.in-Some.place c.index.result.now (omega (arith, c.requires)) c.index.ensures)
    ∙ sym (ap (words_at c.args.self.now.links.items) place)

pub returns-in-None : goal.returns-in-None
returns-in-None c = sym (ap (words_at c.args.self.now.links.items) (let e : c.args.stack ≡ 0 = omega (arith, c.in-None.ensures) in e))
