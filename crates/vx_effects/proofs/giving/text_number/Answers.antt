use Rattle.std.proofs.Common.{length}
use Rattle.std.proofs.lemmas.Bool.{ltb-true}
use Rattle.vx_effects.proofs.Carried.{no_text}
use Rattle.vx_effects.proofs.giving.text_number.Goals as goal

pub append_text-requires : goal.append_text-requires
append_text-requires g c = ltb-true c.in-Text.number (length c.args.heap.now.texts) (rw c.in-Text.is at c.requires)

pub returns-in-Text : goal.returns-in-Text
returns-in-Text g c = rw c.in-Text.is c.append_text.ensures.ok

pub returns-in_default : goal.returns-in_default
returns-in_default g c = rw (no_text c.args.heap.now.texts c.args.start c.args.units.now c.in_default.not-Text) c.put_text.ensures.ok
