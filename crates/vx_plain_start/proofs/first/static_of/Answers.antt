use Rattle.vx_plain_start.proofs.Laws.{slot_given}
use Rattle.vx_plain_start.proofs.first.static_of.Goals as goal

pub returns-in-Same : goal.returns-in-Same
returns-in-Same c = slot_given c.value_of_slot.result c.in-Same.slot c.args.config.now c.args.first.now c.in-Same.is c.value_of_slot.ensures
