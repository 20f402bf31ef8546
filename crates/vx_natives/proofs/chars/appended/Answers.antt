use Rattle.vx_families.proofs.MoreTexts.{HasMoreTexts-refl}
use Rattle.vx_value.specs.declared.slot.Slot.TheVariants.{Text}
use Rattle.vx_natives.proofs.CharLaws.{nothing_appended}
use Rattle.vx_natives.proofs.chars.appended.Goals as goal

pub appended_to-requires : goal.appended_to-requires
appended_to-requires g c = rw c.in-Two.is at c.requires

pub returns-in-Two-clause-ok : goal.returns-in-Two-clause-ok
returns-in-Two-clause-ok g c = rw c.in-Two.is c.appended_to.ensures.ok

pub returns-in_default-clause-ok : goal.returns-in_default-clause-ok
returns-in_default-clause-ok g c = nothing_appended c.args.heap.now.texts c.args.heap.now.texts c.args.pair (λ n e q. c.in_default.not-Two (Text n) e q)

pub returns-in_default-clause-more : goal.returns-in_default-clause-more
returns-in_default-clause-more g c = HasMoreTexts-refl c.args.heap.now
