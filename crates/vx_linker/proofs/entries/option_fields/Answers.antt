use Rattle.std.proofs.Common.{arith}
use Rattle.vx_link.specs.Linked.{option_field}
use Rattle.vx_linker.proofs.Layouts.{numbered_more}
use Rattle.vx_linker.proofs.entries.option_fields.Goals as goal

pub loop-option-preserved : goal.loop-option-preserved
loop-option-preserved c = numbered_more (option_field c.args.fields.now) 0 c.loop-option.option c.loop-option.option c.loop-option.options.items _ _ c.loop-option.invariant c.in_ok-push.ensures.items c.option_field.ensures (omega arith)
