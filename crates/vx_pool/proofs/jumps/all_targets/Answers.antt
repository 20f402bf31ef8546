use Rattle.std.proofs.Common.{◌+◌, ◌*◌, sym, ◌∙◌}
use Rattle.vx_opcode.specs.Numbers.{s4}
use Rattle.vx_pool.specs.Instructions.{is_target}
use Rattle.vx_pool.proofs.Below.{all_below-false}
use Rattle.vx_pool.proofs.jumps.all_targets.Goals as goal

pub returns-then-not-leads : goal.returns-then-not-leads
returns-then-not-leads c =
    sym (all_below-false c.args.count c.loop-k.k (λ k. is_target c.args.starts.now c.args.at (s4 c.args.code.now (c.args.first + c.args.stride * k))) c.loop-k-test.true (sym c.leads.ensures ∙ c.if-not-leads.true))
