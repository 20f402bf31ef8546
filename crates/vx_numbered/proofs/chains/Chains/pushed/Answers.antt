use Rattle.std.proofs.Common.{arith, sym, ap, length, subst, ◌+◌, ◌≡◌, ◌∙◌}
use Rattle.vx_numbered.proofs.ChainLaws.{chain_more, falls_more}
use Rattle.vx_numbered.specs.Chains.{DoFall, chain_of}
use Rattle.vx_numbered.specs.declared.chains.Link.{Link}
use Rattle.vx_numbered.proofs.chains.Chains.pushed.Goals as goal

pub returns-clause-ok : goal.returns-clause-ok
returns-clause-ok c =
    let stack : c.in_ok-stack.stack ≡ length c.args.self.now.links.items + 1 = omega (arith, c.in_ok-stack.ensures, c.len.ensures) in
    let link : Link = record { top = c.args.top; under = c.args.under; words = c.args.words } in
    let falls : DoFall c.push.new.self.items = subst DoFall (sym c.in_ok-push.ensures.items) (falls_more c.args.self.now.links.items link c.args.self.now.fall c.requires) in
    record {
      links = c.in_ok-push.ensures.items;
      is = stack;
      chain = ap (chain_of c.push.new.self.items) stack
          ∙ chain_more c.args.self.now.links.items c.push.new.self.items link c.args.self.now.fall falls c.in_ok-push.ensures.items c.requires;
    }
