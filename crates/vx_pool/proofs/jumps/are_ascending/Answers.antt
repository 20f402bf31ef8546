use Rattle.std.proofs.Common.{◌+◌, ◌*◌, ◌-◌, sym, ◌∙◌, arith}
use Rattle.std.specs.Prelude.{int_lt}
use Rattle.vx_opcode.specs.Numbers.{s4}
use Rattle.vx_pool.proofs.Below.{all_below-false}
use Rattle.vx_pool.proofs.jumps.are_ascending.Goals as goal

pub returns-then-not-is_below_next : goal.returns-then-not-is_below_next
returns-then-not-is_below_next c =
    sym (all_below-false (c.args.pairs - 1) c.loop-k.k (λ k. int_lt (s4 c.args.code.now (c.args.first + 8 * k)) (s4 c.args.code.now (c.args.first + 8 * k + 8))) (omega (arith, c.saturating_sub-k-end.ensures)) (sym c.is_below_next.ensures ∙ c.if-not-is_below_next.true))
