use Rattle.std.proofs.Common.{◌∙◌, arith}
use Rattle.vx_tally.proofs.choosing.begun.Goals as goal

pub returns : goal.returns
returns g c = record {
  options = c.new.ensures.options ∙ c.options.ensures;
  nodes = rw c.options.ensures at c.new.ensures.nodes;
  copies = record { each = λ k copy e. absurd (c.in_ok-copies.ensures k copy e) };
  others = record { each = λ k copy e. absurd (c.in_ok-others.ensures k copy e) };
  known = rw c.new-2.ensures (λ k d l. absurd (omega (arith, l)));
}
